-- What `plan` prints and refuses (this project's own rule).
use Rattle.std.specs.Prelude.{◌≡◌, ◌⊎◌, List, ℕ, Option}
use Rattle.sja_plan.specs.Plan.{PlanValue}
use Rattle.sja_placed_strikes.specs.PlanRead.{IsRunPlan}
use Rattle.sja_plan_reading.specs.declared.plan_fault.PlanFault.TheVariants.{TooLong}
use Rattle.sja_plan_text.specs.Written.{IsPlanText, IsTooLong}
use Rattle.text_codec.specs.declared.command_refusal.CommandRefusal.{CommandRefusal}
use Rattle.text_codec.specs.declared.command_refusal.CommandRefusal.TheVariants as refusal
use Rattle.sja_program.specs.Input.{IsRead, RefusesInput}
use Rattle.sja_program.specs.Run.{RefusesRunPlan}

-- these bytes are a plan, and the text is the one in which it is written
abbrev pub IsSpelling : List ℕ → List ℕ → Type 0
IsSpelling bytes text = (plan : PlanValue) × IsRunPlan bytes plan × IsPlanText plan text

-- why there is no such text. Memory may be refused at any time. Else there is no plan to run, or its text would be
-- longer than a document may be
abbrev pub RefusesSpelling : List ℕ → CommandRefusal → Type 0
RefusesSpelling bytes refusal.OutOfMemory = Unit {0}
RefusesSpelling bytes (refusal.Plan fault) =
    RefusesRunPlan bytes (refusal.Plan fault)
    ⊎ ((fault ≡ TooLong) × (plan : PlanValue) × IsRunPlan bytes plan × IsTooLong plan)
RefusesSpelling bytes (refusal.Place number) = RefusesRunPlan bytes (refusal.Place number)
RefusesSpelling bytes refusal.Strikes = RefusesRunPlan bytes refusal.Strikes
RefusesSpelling bytes other = ⊥

-- the text of the plan on the input, by what the input held before and holds after
abbrev pub IsInputSpelled : Option (List ℕ) → Option (List ℕ) → List ℕ → Type 0
IsInputSpelled before after text = (bytes : List ℕ) × IsRead before after bytes × IsSpelling bytes text

-- why there is none: its bytes aren't there, or there is no such text of them
abbrev pub RefusesInputSpelled : Option (List ℕ) → Option (List ℕ) → CommandRefusal → Type 0
RefusesInputSpelled before after r =
    RefusesInput before after r ⊎ ((bytes : List ℕ) × IsRead before after bytes × RefusesSpelling bytes r)
