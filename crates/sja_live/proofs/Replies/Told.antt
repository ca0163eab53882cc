-- What steps, accesses and bits are answered.
use Rattle.std.proofs.Common.{◌≡◌, ℕ, ◌<◌, ◌≤◌, true, false, List, ◌∷◌, [], sym, subst, arith}
use Rattle.std.specs.Prelude.{Some, None}
use Rattle.sja_driver.specs.StepRuns.{StepRun}
use Rattle.sja_live.specs.Answering.{Answers, all_watched, step_refusal}
use Rattle.sja_live.specs.Answering.Answers.{step, waits, no_step, read, no_read, write, no_write, rose, ran, spent}
use Rattle.sja_live.specs.Answering.Answers.{no_turn, rested, restless, no_rest}
use Rattle.sja_live.specs.Inside.Standing.{IsAnswered, IsLiveAt}
use Rattle.sja_live.specs.declared.live_answer.LiveAnswer.{LiveAnswer}
use Rattle.sja_live.specs.declared.live_answer.LiveAnswer.TheVariants.{Told, Waits as WaitsAnswer, Ran, Rose, Spent}
use Rattle.sja_live.specs.declared.live_answer.LiveAnswer.TheVariants.{Full}
use Rattle.sja_live.specs.declared.live_command.LiveCommand.TheVariants.{Step, Read, Write, Run as RunBits, Rest}
use Rattle.sja_live.specs.declared.exhausted.Exhausted.TheVariants.{Turns as TurnsUsed}
use Rattle.sja_live.proofs.Spelling.Spelled.{had_end, live_by, spelled_bits, still_live, watched_live}
use Rattle.sja_live.proofs.Spelling.SpelledSteps.{live_step, live_write}
use Rattle.sja_plan_text.specs.HasTexts.{HasStepText}
use Rattle.sja_steps.specs.declared.step.Step.{Step as StepOf}
use Rattle.sja_steps.specs.declared.step_answer.StepAnswer.{StepAnswer}
use Rattle.sja_steps.specs.declared.step_answer.StepAnswer.TheVariants.{Done, Value}
use Rattle.sja_serial.specs.Stepping.{with_step_runs}
use Rattle.sja_session.specs.ByAddress.{Reads, Writes, MayWrite, IsWriteFault}
use Rattle.sja_session.specs.Lines.{AreLines, IsStill}
use Rattle.sja_session.specs.SessionRest.{Rests}
use Rattle.sja_session.specs.Running.{MayRun, LacksBusTurn}
use Rattle.sja_session.specs.Sessions.{SessionValue, IsAt, written}
use Rattle.sja_session.specs.Stepping.{MayStep, IsStepFault, DoesStep, Waits}
use Rattle.sja_session.specs.Watching.{Watches}
use Rattle.sja_session.specs.declared.step_fault.StepFault.{StepFault}

-- a session that is as it was stands where it stood
pub stays : (was now : SessionValue) (step_runs : List (List StepRun)) → now ≡ was → IsLiveAt was step_runs →
    IsLiveAt now step_runs
stays was now step_runs e at = subst (λ (s : SessionValue). IsLiveAt s step_runs) (sym e) at

-- ---- steps and accesses

pub told_step : (was now : SessionValue) (node : ℕ) (one : StepOf) (answer : StepAnswer) → MayStep was node →
    ((step_runs : List (List StepRun)) → IsAt was step_runs → DoesStep was now node one answer step_runs) →
    HasStepText was.plan.version one → IsAnswered was now (Step node one) (Told answer)
told_step was now node one answer may does has = λ step_runs at.
    let d = does step_runs at.at in (with_step_runs step_runs node (d.step_run ∷ []), step may d, live_step at has d)

pub told_wait : (was now : SessionValue) (node : ℕ) (one : StepOf) → MayStep was node →
    ((step_runs : List (List StepRun)) → IsAt was step_runs → Waits was now node one step_runs) →
    IsAnswered was now (Step node one) WaitsAnswer
told_wait was now node one may h = λ step_runs at.
    let w = h step_runs at.at in
    (step_runs, waits may w, live_by w.at (λ end. w.wrote) (λ end. at.spelled (had_end w.plan end)))

pub not_step : (was now : SessionValue) (node : ℕ) (one : StepOf) (fault : StepFault) (answer : LiveAnswer) →
    IsStepFault was node fault → answer ≡ step_refusal fault → now ≡ was → IsAnswered was now (Step node one) answer
not_step was now node one fault answer f is e = λ step_runs at. (
  step_runs,
  subst (λ (a : LiveAnswer). Answers was now step_runs (Step node one) a step_runs) (sym is) (no_step fault f e),
  stays was now step_runs e at,
)

pub told_read : (was now : SessionValue) (node address value : ℕ) → MayStep was node →
    ((step_runs : List (List StepRun)) → IsAt was step_runs → Reads was now node address value step_runs) →
    address < 256 → IsAnswered was now (Read node address) (Told (Value value))
told_read was now node address value may reads few = λ step_runs at.
    let r = reads step_runs at.at in
    (with_step_runs step_runs node (r.does.step_run ∷ []), read may r, live_step at few r.does)

pub not_read : (was now : SessionValue) (node address : ℕ) (fault : StepFault) (answer : LiveAnswer) →
    IsStepFault was node fault → answer ≡ step_refusal fault → now ≡ was → IsAnswered was now (Read node address) answer
not_read was now node address fault answer f is e = λ step_runs at. (
  step_runs,
  subst (λ (a : LiveAnswer). Answers was now step_runs (Read node address) a step_runs) (sym is) (no_read fault f e),
  stays was now step_runs e at,
)

pub told_write : (was now : SessionValue) (node address value : ℕ) →
    ((step_runs : List (List StepRun)) → IsAt was step_runs → MayWrite was node address value step_runs) →
    ((step_runs : List (List StepRun)) → IsAt was step_runs → Writes was now node address value step_runs) →
    address < 256 → value < 256 → IsAnswered was now (Write node address value) (Told Done)
told_write was now node address value may writes few byte = λ step_runs at.
    let w = writes step_runs at.at in
    (w.after, write (may step_runs at.at) w, live_write was now node address value step_runs at few byte w)

pub not_write : (was now : SessionValue) (node address value : ℕ) (fault : StepFault) (answer : LiveAnswer) →
    ((step_runs : List (List StepRun)) → IsAt was step_runs → IsWriteFault was node address value step_runs fault) →
    answer ≡ step_refusal fault → now ≡ was → IsAnswered was now (Write node address value) answer
not_write was now node address value fault answer f is e = λ step_runs at. (
  step_runs,
  subst (λ (a : LiveAnswer). Answers was now step_runs (Write node address value) a step_runs) (sym is)
      (no_write fault (f step_runs at.at) e),
  stays was now step_runs e at,
)

-- ---- bits

pub told_rose : (was mid now : SessionValue) (count run node lines : ℕ) → MayRun was count →
    ((step_runs : List (List StepRun)) → IsAt was step_runs →
    Watches was mid count all_watched run (Some node) step_runs) →
    ((step_runs : List (List StepRun)) → IsAt mid step_runs → AreLines mid step_runs lines) →
    ((step_runs : List (List StepRun)) → IsAt mid step_runs → IsStill mid now step_runs) →
    IsAnswered was now (RunBits count) (Rose run lines)
told_rose was mid now count run node lines may watches are still = λ step_runs at.
    let w = watches step_runs at.at in let mid_at = watched_live was mid count run (Some node) step_runs at w in
    let s = still step_runs mid_at.at in
    (step_runs, rose mid node may w s (are step_runs mid_at.at), still_live mid_at s)

pub told_ran : (was now : SessionValue) (count run : ℕ) → MayRun was count →
    ((step_runs : List (List StepRun)) → IsAt was step_runs → Watches was now count all_watched run None step_runs) →
    count ≤ run → IsAnswered was now (RunBits count) (Ran run)
told_ran was now count run may watches many = λ step_runs at.
    let w = watches step_runs at.at in let few = w.1 in let e : run ≡ count = omega (arith, many, few) in (
      step_runs,
      subst (λ n. Answers was now step_runs (RunBits count) (Ran n) step_runs) (sym e)
          (ran may (subst (λ n. Watches was now count all_watched n None step_runs) e w)),
      watched_live was now count run None step_runs at w,
    )

pub told_spent : (was now : SessionValue) (count run : ℕ) → MayRun was count →
    ((step_runs : List (List StepRun)) → IsAt was step_runs → Watches was now count all_watched run None step_runs) →
    run < count → IsAnswered was now (RunBits count) (Spent run)
told_spent was now count run may watches less = λ step_runs at.
    let w = watches step_runs at.at in
    (step_runs, spent may w less, watched_live was now count run None step_runs at w)

pub not_run : (was now : SessionValue) (count : ℕ) → LacksBusTurn was count → now ≡ was →
    IsAnswered was now (RunBits count) (Full TurnsUsed)
not_run was now count lacks e = λ step_runs at. (step_runs, no_turn lacks e, stays was now step_runs e at)

pub told_rest : (was now : SessionValue) (run : ℕ) → MayRun was 1 →
    ((step_runs : List (List StepRun)) → IsAt was step_runs → Rests was now run true step_runs) →
    IsAnswered was now Rest (Ran run)
told_rest was now run may rests = λ step_runs at.
    let r = rests step_runs at.at in (
      step_runs,
      rested may r,
      live_by r.at (λ end. r.wrote (had_end r.plan end))
          (λ end. spelled_bits (written was) run (at.spelled (had_end r.plan end))),
    )

pub at_no_rest : (was now : SessionValue) (run : ℕ) → MayRun was 1 →
    ((step_runs : List (List StepRun)) → IsAt was step_runs → Rests was now run false step_runs) →
    IsAnswered was now Rest (Spent run)
at_no_rest was now run may rests = λ step_runs at.
    let r = rests step_runs at.at in (
      step_runs,
      restless may r,
      live_by r.at (λ end. r.wrote (had_end r.plan end))
          (λ end. spelled_bits (written was) run (at.spelled (had_end r.plan end))),
    )

pub not_rest : (was now : SessionValue) → LacksBusTurn was 1 → now ≡ was → IsAnswered was now Rest (Full TurnsUsed)
not_rest was now lacks e = λ step_runs at. (step_runs, no_rest lacks e, stays was now step_runs e at)
