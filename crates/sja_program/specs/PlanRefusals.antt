-- Why there is no text of a plan (this project's own rule).
use Rattle.std.specs.Prelude.{◌≡◌, ℕ, true, List, Option}
use Rattle.text_codec.specs.declared.command_refusal.CommandRefusal.{CommandRefusal}
use Rattle.text_codec.specs.declared.command_refusal.CommandRefusal.TheVariants as refusal
use Rattle.sja_plan.specs.Plan.{PlanValue}
use Rattle.sja_plan_reading.specs.declared.plan_fault.PlanFault.TheVariants as faults
use Rattle.sja_plan_text.specs.Written.{IsTooLong}
use Rattle.text_codec.specs.declared.sweep_refusal.SweepRefusal.{SweepRefusal}
use Rattle.text_codec.specs.declared.sweep_refusal.SweepRefusal.TheVariants.{TooLong}

-- the text of a plan is too long, and nothing else is wrong
abbrev pub IsLong : PlanValue → SweepRefusal → Type 0
IsLong plan TooLong = IsTooLong plan
IsLong plan other = ⊥

-- why there is no text of a plan: it would be too long, or memory was refused
abbrev pub RefusesDocument : PlanValue → CommandRefusal → Type 0
RefusesDocument plan refusal.OutOfMemory = Unit {0}
RefusesDocument plan (refusal.Plan fault) = (fault ≡ faults.TooLong) × IsTooLong plan
RefusesDocument plan other = ⊥

-- why there is none, by a reason: this, or memory was refused
abbrev pub RefusesPlan : (PlanValue → SweepRefusal → Type 0) → PlanValue → CommandRefusal → Type 0
RefusesPlan May plan refusal.OutOfMemory = Unit {0}
RefusesPlan May plan (refusal.Sweep why) = May plan why
RefusesPlan May plan other = ⊥
