-- What the functions that answer one request promise of one another (this project's own rule).
use Rattle.std.specs.Prelude.{◌≡◌, ◌⊎◌, ℕ, Bool, true, false, List, Option}
use Rattle.sja_command_line.specs.Requests.{Request, run, wave, trace, frames, picture, candump}
use Rattle.text_codec.specs.declared.command_refusal.CommandRefusal.{CommandRefusal}
use Rattle.text_codec.specs.declared.command_refusal.CommandRefusal.TheVariants as refusal
use Rattle.sja_program.specs.declared.plan_check.PlanCheck.{PlanCheck}
use Rattle.sja_program.specs.declared.plan_check.PlanCheck.TheVariants.{Hints, Mistake}
use Rattle.sja_program.specs.Check.{IsFine, IsHinted, IsExplained, HasHints, HasMistake}

-- a text of a run is asked for, in threads or in one
abbrev pub AsksForText : Request → Type 0
AsksForText (run threads) = Unit {0}
AsksForText (wave threads) = Unit {0}
AsksForText (trace threads) = Unit {0}
AsksForText (frames bits threads) = Unit {0}
AsksForText (picture first last svg threads meant) = Unit {0}
AsksForText (candump errors threads) = Unit {0}
AsksForText other = ⊥

-- Whether a write to the output and to the error output had failed before, whether one has failed now, and the status:
-- where one failed and none had before, it is 1.
abbrev pub IsOneWhereFailed : Bool → Bool → Bool → Bool → ℕ → Type 0
IsOneWhereFailed out_old err_old out_new err_new status =
    out_old ≡ false → err_old ≡ false → (out_new ≡ true) ⊎ (err_new ≡ true) → status ≡ 1

-- by what was left out the exit status is 0, or strictly 1
abbrev pub IsJudged : Bool → List ℕ → ℕ → Type 0
IsJudged strict text status =
    ((status ≡ 0) × IsFine strict text) ⊎ ((status ≡ 1) × (strict ≡ true) × (¬ IsFine true text))

-- which of both is said of these bytes: hints of a plan, or its mistake
abbrev pub IsSaidOf : List ℕ → PlanCheck → Type 0
IsSaidOf bytes (Hints text) = IsHinted bytes text.items
IsSaidOf bytes (Mistake text) = IsExplained bytes text.items

-- which of both is said of those that were read
abbrev pub IsChecked : Option (List ℕ) → Option (List ℕ) → PlanCheck → Type 0
IsChecked before after (Hints text) = HasHints before after text.items
IsChecked before after (Mistake text) = HasMistake before after text.items
