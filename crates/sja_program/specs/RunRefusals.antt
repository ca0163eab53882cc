-- A plan that was read, and then run.
use Rattle.std.specs.Prelude.{Bool, ℕ, List, Option}
use Rattle.sja_plan.specs.Plan.{PlanValue}
use Rattle.text_codec.specs.declared.command_refusal.CommandRefusal.{CommandRefusal}
use Rattle.text_codec.specs.declared.command_refusal.CommandRefusal.TheVariants as refusal
use Rattle.sja_log.specs.Log.{RunValue}
use Rattle.sja_program.specs.RunText.{IsRunOf, IsTooLarge, MayFault}
use Rattle.sja_program.specs.declared.run_text.RunText.{RunText}
use Rattle.sja_program.specs.declared.run_text.RunText.TheVariants.{Drawing}
use Rattle.sja_placed_strikes.specs.PlanRead.{IsRunPlan}
use Rattle.sja_program.specs.Input.{IsRead}

-- why there is none of these texts of a run with this log: memory was refused, or its drawing is too large
abbrev pub RefusesTextOf : RunText → PlanValue → RunValue → CommandRefusal → Type 0
RefusesTextOf what plan log refusal.OutOfMemory = Unit {0}
RefusesTextOf what plan log (refusal.Drawing levels) = IsTooLarge what plan log levels
RefusesTextOf what plan log other = ⊥

-- why there is none of a run of this plan, in threads (`true`) or in one: memory was refused, the run had this fault,
-- or its drawing is too large
abbrev pub RefusesRunOf : Bool → RunText → PlanValue → CommandRefusal → Type 0
RefusesRunOf threads what plan refusal.OutOfMemory = Unit {0}
RefusesRunOf threads what plan (refusal.Run fault) = MayFault threads plan fault
RefusesRunOf threads what plan (refusal.Drawing levels) =
    (log : RunValue) × IsRunOf threads plan log × IsTooLarge what plan log levels
RefusesRunOf threads what plan other = ⊥

-- no drawing is asked for
abbrev pub IsPlain : RunText → Type 0
IsPlain (Drawing first last meant) = ⊥
IsPlain other = Unit {0}

-- the bytes that were read are this plan
abbrev pub HoldsPlan : Option (List ℕ) → Option (List ℕ) → PlanValue → Type 0
HoldsPlan before after plan = (bytes : List ℕ) × IsRead before after bytes × IsRunPlan bytes plan
