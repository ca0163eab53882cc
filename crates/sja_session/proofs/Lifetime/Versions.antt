-- By which version the run of a session goes.
use Rattle.std.proofs.Common.{◌≡◌, ◌≤◌, ◌<◌, ◌*◌, ℕ, Bool, map, sym, ap, ◌∙◌, subst, inl, inr}
use Rattle.std.specs.Prelude.{if◌then◌else◌}
use Rattle.std.proofs.lemmas.Bool.{cases_lt, le-ltb, lt-ltb}
use Rattle.can_frame.specs.declared.buffer_view.BufferView.{BufferView}
use Rattle.sja_regs.specs.declared.registers.Registers.{Registers}
use Rattle.sja_driver.specs.StepRuns.{StepRun, Answers, IsStepRun, by_bytes, act_steps, most_acts}
use Rattle.sja_driver.specs.TypedActs.{TypedAct}
use Rattle.sja_driver.specs.declared.unmodelled_registers.UnmodelledRegisters.{UnmodelledRegisters}
use Rattle.sja_plan.specs.Limits.{most_bits}
use Rattle.sja_plan.specs.Plan.{PlanValue}
use Rattle.sja_session.specs.Sessions.{run_version}

-- with an end that of its plan
pub run_as_plan : (p : PlanValue) → p.bits ≤ most_bits p.version → run_version p ≡ p.version
run_as_plan p end =
    ap (λ (b : Bool). if b then 4 else p.version) (le-ltb (most_bits p.version) p.bits end)

-- without one its own
pub run_endless : (p : PlanValue) → most_bits p.version < p.bits → run_version p ≡ 4
run_endless p endless =
    ap (λ (b : Bool). if b then 4 else p.version) (lt-ltb (most_bits p.version) p.bits endless)

-- ---- where one without an end goes by the rules of version 3

module _ (p : PlanValue) (rules : most_bits p.version < p.bits → p.version ≡ 3) where
  -- reads and writes are what they are by the plan's version
  pub bytes_as_plan : by_bytes (run_version p) ≡ by_bytes p.version
  bytes_as_plan = elim (cases_lt (most_bits p.version) p.bits) [
    | inl endless ↦ ap by_bytes (run_endless p endless) ∙ sym (ap by_bytes (rules endless))
    | inr end ↦ ap by_bytes (run_as_plan p end)
  ]

  pub step_run_as_plan : {at : Registers} {seen : BufferView} {active : Bool} {kept kept_now : UnmodelledRegisters}
      {a : StepRun} →
      IsStepRun (run_version p) at seen active kept a kept_now → IsStepRun p.version at seen active kept a kept_now
  step_run_as_plan {at} {seen} {active} {kept} {a = a} is = record {
    steps = subst (λ (b : Bool). map (λ (d : TypedAct). d.step) a.acts ≡ act_steps b at active a.step) bytes_as_plan
        is.steps;
    answer = subst (λ (b : Bool). Answers b at seen kept a.bits a.step a.acts a.answer) bytes_as_plan is.answer;
    left = is.left;
  }

  -- and so is how many acts steps may be
  pub acts_as_plan : (steps : ℕ) → most_acts (run_version p) steps ≡ most_acts p.version steps
  acts_as_plan steps = ap (λ (b : Bool). if b then 3 * steps else steps) bytes_as_plan
