-- What `sja live` does for a command, and what it answers (this project's own rule): each command is a call of the
-- session, and the answer is what the call gives, or why it is refused; a call that is refused changes nothing.
use Rattle.std.specs.Prelude.{◌≡◌, ◌+◌, ◌*◌, ◌<◌, ℕ, zero, suc, Bool, true, false, if◌then◌else◌}
use Rattle.std.specs.Prelude.{Option, Some, None, List, [], ◌∷◌, length, replicate, String, string_bytes}
use Rattle.std.specs.Global.{Global}
use Rattle.sja_driver.specs.StepRuns.{StepRun, step_runs_at}
use Rattle.sja_live.specs.declared.line_fault.LineFault.TheVariants.{Node as NodeWord}
use Rattle.sja_live.specs.declared.live_answer.LiveAnswer.{LiveAnswer}
use Rattle.sja_live.specs.declared.live_answer.LiveAnswer.TheVariants.{Told, Waits, Ran, Rose, Spent, Lines}
use Rattle.sja_live.specs.declared.live_answer.LiveAnswer.TheVariants.{Bits as Run, Nothing, PlanSoFar, NoBit, Full}
use Rattle.sja_live.specs.declared.live_answer.LiveAnswer.TheVariants.{NoPlan, Mistaken, At}
use Rattle.sja_live.specs.declared.live_command.LiveCommand.{LiveCommand}
use Rattle.sja_live.specs.declared.live_command.LiveCommand.TheVariants.{Step, Read, Write, Run as RunBits, Rest}
use Rattle.sja_live.specs.declared.live_command.LiveCommand.TheVariants.{Line, Strike, Answer, Bits, Plan, To, PlaceOf}
use Rattle.sja_live.specs.declared.exhausted.Exhausted.TheVariants.{Steps as StepsUsed, Turns as TurnsUsed}
use Rattle.sja_live.specs.declared.exhausted.Exhausted.TheVariants.{Strikes as StrikesUsed, Document}
use Rattle.sja_plan.specs.declared.place.Place.{Place}
use Rattle.sja_plan_text.specs.Written.{IsPlanText, IsTooLong}
use Rattle.sja_steps.specs.declared.step.Step.{Step as StepOf}
use Rattle.sja_steps.specs.declared.step_answer.StepAnswer.{StepAnswer}
use Rattle.sja_steps.specs.declared.step_answer.StepAnswer.TheVariants.{Done, Value}
use Rattle.sja_serial.specs.Stepping.{with_step_runs}
use Rattle.sja_serial.specs.SerialPlaces.{IsPlace}
use Rattle.sja_session.specs.Answering.{last_answer}
use Rattle.sja_session.specs.ByAddress.{Reads, Writes, MayWrite, IsWriteFault}
use Rattle.sja_session.specs.Lines.{AreLines, IsStill}
use Rattle.sja_session.specs.SessionPlaces.{RunsTo, MayRunTo, IsPlaceRefusal}
use Rattle.sja_session.specs.SessionRest.{Rests}
use Rattle.sja_session.specs.Running.{MayRun, LacksBusTurn}
use Rattle.sja_session.specs.Sessions.{SessionValue, HasEnd, IsEndless, written}
use Rattle.sja_session.specs.Stepping.{MayStep, IsStepFault, DoesStep, Waits as HasToWait}
use Rattle.sja_session.specs.Striking.{MayStrike, IsStrikeFault, IsStruck}
use Rattle.sja_session.specs.Watching.{Watches}
use Rattle.sja_session.specs.declared.place_refusal.PlaceRefusal.{PlaceRefusal}
use Rattle.sja_session.specs.declared.place_refusal.PlaceRefusal.TheVariants.{NoNode as NowhereTo}
use Rattle.sja_session.specs.declared.place_refusal.PlaceRefusal.TheVariants.{TurnsUsed as NoTurnTo}
use Rattle.sja_session.specs.declared.step_fault.StepFault.{StepFault}
use Rattle.sja_session.specs.declared.step_fault.StepFault.TheVariants.{NoNode, StepsUsed as AllSteps}
use Rattle.sja_session.specs.declared.step_fault.StepFault.TheVariants.{TurnsUsed as AllTurns}
use Rattle.sja_session.specs.declared.strike_fault.StrikeFault.{StrikeFault}
use Rattle.sja_session.specs.declared.strike_fault.StrikeFault.TheVariants.{NoNode as NowhereStruck, Past}
use Rattle.sja_session.specs.declared.strike_fault.StrikeFault.TheVariants.{NoBit as PastTheEnd, Memory}
use Rattle.sja_session.specs.declared.strike_fault.StrikeFault.TheVariants.{StrikesUsed as AllStrikes}
use Rattle.sja_bus_rules.specs.Wire.{journal_at}

-- every node is watched
abbrev pub all_watched : List Bool
all_watched = replicate 8 true

-- ---- refusals

-- what a step is answered that isn't tried
abbrev pub step_refusal : StepFault → LiveAnswer
step_refusal NoNode = Mistaken NodeWord
step_refusal AllSteps = Full StepsUsed
step_refusal AllTurns = Full TurnsUsed

-- and a strike that isn't taken; where memory is refused there is no answer
abbrev pub strike_refusal : StrikeFault → Option LiveAnswer
strike_refusal NowhereStruck = Some (Mistaken NodeWord)
strike_refusal PastTheEnd = Some NoBit
strike_refusal Past = Some NoBit
strike_refusal AllStrikes = Some (Full StrikesUsed)
strike_refusal Memory = None

-- and bits up to a place that aren't run
abbrev pub place_refusal : PlaceRefusal → LiveAnswer
place_refusal NowhereTo = Mistaken NodeWord
place_refusal NoTurnTo = Full TurnsUsed

-- ---- commands

-- the session, which stands at these steps, answers a command so, and stands at those after it. What is done is what
-- may be done, so that nothing is used up where something is done
pub data Answers (was now : SessionValue) (step_runs : List (List StepRun)) :
    LiveCommand → LiveAnswer → List (List StepRun) → Type 0 where
  step : {node : ℕ} {step : StepOf} {answer : StepAnswer} → MayStep was node →
      (does : DoesStep was now node step answer step_runs) →
      Answers was now step_runs (Step node step) (Told answer) (with_step_runs step_runs node (does.step_run ∷ []))
  waits : {node : ℕ} {step : StepOf} → MayStep was node → HasToWait was now node step step_runs →
      Answers was now step_runs (Step node step) Waits step_runs
  no_step : {node : ℕ} {step : StepOf} (fault : StepFault) → IsStepFault was node fault → now ≡ was →
      Answers was now step_runs (Step node step) (step_refusal fault) step_runs
  read : {node address value : ℕ} → MayStep was node → (reads : Reads was now node address value step_runs) →
      Answers was now step_runs (Read node address) (Told (Value value))
      (with_step_runs step_runs node (reads.does.step_run ∷ []))
  no_read : {node address : ℕ} (fault : StepFault) → IsStepFault was node fault → now ≡ was →
      Answers was now step_runs (Read node address) (step_refusal fault) step_runs
  write : {node address value : ℕ} → MayWrite was node address value step_runs →
      (writes : Writes was now node address value step_runs) →
      Answers was now step_runs (Write node address value) (Told Done) writes.after
  no_write : {node address value : ℕ} (fault : StepFault) → IsWriteFault was node address value step_runs fault →
      now ≡ was → Answers was now step_runs (Write node address value) (step_refusal fault) step_runs
  -- a line rose in the last bit that was run
  rose : {count run lines : ℕ} (mid : SessionValue) (node : ℕ) → MayRun was count →
      Watches was mid count all_watched run (Some node) step_runs → IsStill mid now step_runs →
      AreLines mid step_runs lines → Answers was now step_runs (RunBits count) (Rose run lines) step_runs
  -- none did, and all bits were run
  ran : {count : ℕ} → MayRun was count → Watches was now count all_watched count None step_runs →
      Answers was now step_runs (RunBits count) (Ran count) step_runs
  -- none did, and fewer were left
  spent : {count run : ℕ} → MayRun was count → Watches was now count all_watched run None step_runs → run < count →
      Answers was now step_runs (RunBits count) (Spent run) step_runs
  no_turn : {count : ℕ} → LacksBusTurn was count → now ≡ was →
      Answers was now step_runs (RunBits count) (Full TurnsUsed) step_runs
  rested : {run : ℕ} → MayRun was 1 → Rests was now run true step_runs →
      Answers was now step_runs Rest (Ran run) step_runs
  restless : {run : ℕ} → MayRun was 1 → Rests was now run false step_runs →
      Answers was now step_runs Rest (Spent run) step_runs
  no_rest : LacksBusTurn was 1 → now ≡ was → Answers was now step_runs Rest (Full TurnsUsed) step_runs
  -- the node came to the place; or it didn't, in as many bits as were asked for or are left
  came : {node limit run : ℕ} {place : Place} → MayRunTo was node limit →
      RunsTo was now node place limit run true step_runs →
      Answers was now step_runs (To node place limit) (Ran run) step_runs
  away : {node limit run : ℕ} {place : Place} → MayRunTo was node limit →
      RunsTo was now node place limit run false step_runs →
      Answers was now step_runs (To node place limit) (Spent run) step_runs
  no_way : {node limit : ℕ} {place : Place} (fault : PlaceRefusal) → IsPlaceRefusal was node limit fault → now ≡ was →
      Answers was now step_runs (To node place limit) (place_refusal fault) step_runs
  -- where a node is by the cut of its record, if it is there
  at : {node : ℕ} {place : Place} →
      (node < length was.plan.nodes → IsPlace (journal_at was.run.bus.journals node) (Some place)) → now ≡ was →
      Answers was now step_runs (PlaceOf node) (At place) step_runs
  nowhere : {node : ℕ} →
      (node < length was.plan.nodes → IsPlace (journal_at was.run.bus.journals node) None) → now ≡ was →
      Answers was now step_runs (PlaceOf node) Nothing step_runs
  line : {lines : ℕ} → IsStill was now step_runs → AreLines was step_runs lines →
      Answers was now step_runs Line (Lines lines) step_runs
  strike : {node bit : ℕ} → MayStrike was node bit → IsStruck was now node bit step_runs →
      Answers was now step_runs (Strike node bit) (Told Done) step_runs
  no_strike : {node bit : ℕ} {answer : LiveAnswer} (fault : StrikeFault) → IsStrikeFault was node bit fault →
      strike_refusal fault ≡ Some answer → now ≡ was → Answers was now step_runs (Strike node bit) answer step_runs
  -- what the last step of a node answered that is done
  answer : {node : ℕ} {answer : StepAnswer} → last_answer (step_runs_at step_runs node) ≡ Some answer → now ≡ was →
      Answers was now step_runs (Answer node) (Told answer) step_runs
  nothing : {node : ℕ} → last_answer (step_runs_at step_runs node) ≡ None → now ≡ was →
      Answers was now step_runs (Answer node) Nothing step_runs
  bits : now ≡ was → Answers was now step_runs Bits (Run was.run.bits) step_runs
  -- the text of the plan so far, which is read as this plan; or it is too long; without an end there is none
  plan : {document : String Global} → HasEnd was → IsPlanText (written was) (string_bytes document) → now ≡ was →
      Answers was now step_runs Plan (PlanSoFar document) step_runs
  no_plan : HasEnd was → IsTooLong (written was) → now ≡ was →
      Answers was now step_runs Plan (Full Document) step_runs
  no_end : IsEndless was → now ≡ was → Answers was now step_runs Plan NoPlan step_runs
