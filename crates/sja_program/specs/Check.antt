-- What `check` says of the plan on the input, by what the input held before and holds after (this project's own rule).
-- A fault of the plan is no reason to say nothing.
use Rattle.std.specs.Prelude.{◌≡◌, ◌++◌, ℕ, Bool, true, false, List, [], Option}
use Rattle.sja_plan_reading.specs.DocumentLimits.{begins_by_bytes}
use Rattle.sja_plan.specs.Plan.{PlanValue}
use Rattle.sja_plan_reading.specs.PlacedPlans.{IsFirstPlacedFault}
use Rattle.sja_placed_strikes.specs.PlanRead.{IsRunPlan}
use Rattle.sja_plan_reading.specs.declared.plan_fault.PlanFault.TheVariants.{Memory}
use Rattle.sja_log.specs.Log.{RunValue}
use Rattle.sja_promises.specs.Runs.{IsSerialRun}
use Rattle.sja_check.specs.Lines.{IsBrief, AreHints}
use Rattle.text_codec.specs.Refusal.{refusal_line}
use Rattle.text_codec.specs.declared.command_refusal.CommandRefusal.{CommandRefusal}
use Rattle.text_codec.specs.declared.command_refusal.CommandRefusal.TheVariants as refusal
use Rattle.sja_program.specs.Input.{IsRead}
use Rattle.sja_program.specs.Run.{HasManyStrikes, MissesPlace, OfPlaced}

-- these bytes are a plan, which has a run in one thread, and the text is a line for each hint
abbrev pub IsHinted : List ℕ → List ℕ → Type 0
IsHinted bytes text =
    (plan : PlanValue) × (log : RunValue) × IsRunPlan bytes plan × IsSerialRun plan log × AreHints text

-- what is explained: the first fault of these bytes, which is no refused memory, or that a strike by place has no bit
abbrev pub IsExplainable : List ℕ → CommandRefusal → Type 0
IsExplainable bytes (refusal.Plan fault) = (¬ (fault ≡ Memory)) × IsFirstPlacedFault bytes fault
IsExplainable bytes (refusal.Place number) = OfPlaced bytes (MissesPlace number)
IsExplainable bytes refusal.Strikes = OfPlaced bytes HasManyStrikes
IsExplainable bytes other = ⊥

-- the text is the line that stands for it alone, and then one line or two
abbrev pub IsExplained : List ℕ → List ℕ → Type 0
IsExplained bytes text =
    (r : CommandRefusal) × (words : List ℕ) × IsExplainable bytes r × (text ≡ refusal_line r ++ words) × IsBrief words

-- strictly no hint is fine
abbrev pub IsFine : Bool → List ℕ → Type 0
IsFine true text = text ≡ []
IsFine false text = Unit {0}

-- there are hints of the bytes that were read
abbrev pub HasHints : Option (List ℕ) → Option (List ℕ) → List ℕ → Type 0
HasHints before after text = (bytes : List ℕ) × IsRead before after bytes × IsHinted bytes text

-- there is a mistake in them
abbrev pub HasMistake : Option (List ℕ) → Option (List ℕ) → List ℕ → Type 0
HasMistake before after text = (bytes : List ℕ) × IsRead before after bytes × IsExplained bytes text

-- there is one, and they say version 3 before all other keys
abbrev pub HasMistakeByBytes : Option (List ℕ) → Option (List ℕ) → List ℕ → Type 0
HasMistakeByBytes before after text =
    (bytes : List ℕ) × IsRead before after bytes × (begins_by_bytes bytes ≡ true) × IsExplained bytes text
