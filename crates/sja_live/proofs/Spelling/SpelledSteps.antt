-- What a session wrote has texts after its steps and accesses.
use Rattle.std.proofs.Common.{◌≡◌, ℕ, ◌<◌, List, ◌∷◌, [], All, sym, ap, subst}
use Rattle.std.specs.Prelude.{slice_index_or}
use Rattle.std.proofs.lemmas.List.Elements.{All-head, All-tail}
use Rattle.sja_driver.specs.StepRuns.{StepRun, step_runs_at, by_bytes, acts_in}
use Rattle.sja_driver.specs.TypedActs.{is_active}
use Rattle.sja_live.specs.Inside.Standing.{IsLiveAt}
use Rattle.sja_live.proofs.Spelling.Spelled.{had_end, live_by, spelled_step}
use Rattle.sja_live.proofs.Spelling.WriteTexts.{write_texts}
use Rattle.sja_plan.specs.Plan.{PlanValue}
use Rattle.sja_plan_text.specs.HasTexts.{HasStepText}
use Rattle.sja_regs.specs.Registers.{at_power_on}
use Rattle.sja_steps.specs.declared.step.Step.{Step}
use Rattle.sja_steps.specs.declared.step_answer.StepAnswer.{StepAnswer}
use Rattle.sja_serial.specs.Stepping.{with_step_runs}
use Rattle.sja_session.specs.ByAddress.{DoesSteps, Writes}
use Rattle.sja_session.specs.ByAddress.DoesSteps.{none, more}
use Rattle.sja_session.specs.Sessions.{SessionValue, written}
use Rattle.sja_session.specs.Stepping.{DoesStep}

pub live_step : {was now : SessionValue} {node : ℕ} {step : Step} {answer : StepAnswer}
    {step_runs : List (List StepRun)} → IsLiveAt was step_runs → HasStepText was.plan.version step →
    (does : DoesStep was now node step answer step_runs) →
    IsLiveAt now (with_step_runs step_runs node (does.step_run ∷ []))
live_step {was} {now} {node} {step} h has does =
    live_by does.at (λ end. does.wrote (had_end does.plan end))
    (λ end. spelled_step (written was) node step (h.spelled (had_end does.plan end)) has)

live_steps : {node : ℕ} {was now : SessionValue} {step_runs after : List (List StepRun)} {steps : List Step}
    {answers : List StepAnswer} → IsLiveAt was step_runs → All (HasStepText was.plan.version) steps →
    DoesSteps node was step_runs steps answers now after → IsLiveAt now after
live_steps h has none = h
live_steps {node} {was} {now} {step_runs} h has (more {mid = mid} {step = step} {steps = steps} does rest) =
    let has_text = HasStepText was.plan.version in
    let version : was.plan.version ≡ mid.plan.version = sym (ap (λ (p : PlanValue). p.version) does.plan) in
    live_steps (live_step h (All-head has_text step steps has) does)
    (subst (λ (n : ℕ). All (HasStepText n) steps) version (All-tail has_text step steps has)) rest

pub live_write : (was now : SessionValue) (node address value : ℕ) (step_runs : List (List StepRun)) →
    IsLiveAt was step_runs → address < 256 → value < 256 →
    (writes : Writes was now node address value step_runs) → IsLiveAt now writes.after
live_write was now node address value step_runs h few byte writes =
    let p = at_power_on 1 in let version = was.plan.version in
    live_steps h (write_texts version (by_bytes version) (slice_index_or was.run.ports node p)
    (is_active (acts_in (step_runs_at step_runs node))) address value few byte) (writes.does p)
