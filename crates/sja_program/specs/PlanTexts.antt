-- The texts of the plan that some bytes are, and why there are none (this project's own rule).
use Rattle.std.specs.Prelude.{ℕ, Bool, true, List}
use Rattle.sja_log.specs.Log.{RunValue}
use Rattle.sja_plan.specs.Plan.{PlanValue}
use Rattle.sja_placed_strikes.specs.PlanRead.{IsRunPlan}
use Rattle.text_codec.specs.declared.sweep_refusal.SweepRefusal.{SweepRefusal}
use Rattle.text_codec.specs.declared.command_refusal.CommandRefusal.{CommandRefusal}
use Rattle.text_codec.specs.declared.command_refusal.CommandRefusal.TheVariants as refusal
use Rattle.sja_program.specs.Run.{RefusesRunPlan}
use Rattle.sja_program.specs.RunText.{IsRunOf, IsTextOfRun, IsTooLarge, MayFault}
use Rattle.sja_program.specs.declared.run_text.RunText.{RunText}

-- the text is this one of a run of the plan that these bytes are: in threads (`true`) or in one
abbrev pub IsTextIn : Bool → RunText → List ℕ → List ℕ → Type 0
IsTextIn threads what bytes text = (plan : PlanValue) × IsRunPlan bytes plan × IsTextOfRun threads what plan text

-- the text is one of the plan that these bytes are
abbrev pub IsTextFor : (PlanValue → List ℕ → Type 0) → List ℕ → List ℕ → Type 0
IsTextFor Is bytes text = (plan : PlanValue) × IsRunPlan bytes plan × Is plan text

-- why there is none of these texts of a run of that plan, in threads (`true`) or in one. Memory may be refused at any
-- time. Else the bytes have this first fault, or they are a plan, and its run had this fault; or it was made, and the
-- drawing of its bits has more levels than may be drawn unasked
abbrev pub RefusesTextIn : Bool → RunText → List ℕ → CommandRefusal → Type 0
RefusesTextIn threads what bytes refusal.OutOfMemory = Unit {0}
RefusesTextIn threads what bytes (refusal.Plan fault) = RefusesRunPlan bytes (refusal.Plan fault)
RefusesTextIn threads what bytes (refusal.Place number) = RefusesRunPlan bytes (refusal.Place number)
RefusesTextIn threads what bytes refusal.Strikes = RefusesRunPlan bytes refusal.Strikes
RefusesTextIn threads what bytes (refusal.Run fault) =
    (plan : PlanValue) × IsRunPlan bytes plan × MayFault threads plan fault
RefusesTextIn threads what bytes (refusal.Drawing levels) =
    (plan : PlanValue) × (log : RunValue) × IsRunPlan bytes plan × IsRunOf threads plan log
    × IsTooLarge what plan log levels
RefusesTextIn threads what bytes other = ⊥

-- why there is no text of that plan without its run: as there is none of its run, but that the plan has no such text
-- in place of a fault of the run
abbrev pub RefusesTextFor : (PlanValue → SweepRefusal → Type 0) → List ℕ → CommandRefusal → Type 0
RefusesTextFor May bytes refusal.OutOfMemory = Unit {0}
RefusesTextFor May bytes (refusal.Plan fault) = RefusesRunPlan bytes (refusal.Plan fault)
RefusesTextFor May bytes (refusal.Place number) = RefusesRunPlan bytes (refusal.Place number)
RefusesTextFor May bytes refusal.Strikes = RefusesRunPlan bytes refusal.Strikes
RefusesTextFor May bytes (refusal.Sweep why) = (plan : PlanValue) × IsRunPlan bytes plan × May plan why
RefusesTextFor May bytes other = ⊥
