-- The log of a run in one thread, as it stands when it ends (this project's own rule).
use Rattle.std.specs.Prelude.{◌≡◌, ◌<◌, ℕ, List, length, map, slice_index_or, take}
use Rattle.sja_plan.specs.Plan.{PlanValue, step_counts, steps_at}
use Rattle.sja_driver.specs.StepRuns.{StepRun, step_runs_at, acts_in, most_acts}
use Rattle.sja_log.specs.declared.end.End.{End}
use Rattle.sja_driver.specs.InTime.{IsInTime}
use Rattle.sja_log.specs.Log.{NodeValue, RunValue, journals_in}
use Rattle.sja_promises.specs.Registering.{HaveRegisters}
use Rattle.sja_promises.specs.Runs.{IsRun, AreFirst as AreFirstSteps}
use Rattle.sja_promises.specs.Turns.{Progress}
use Rattle.sja_serial.specs.Serial.{Setup, SerialValue, all_acts}

-- ---- plans

-- what a run of this plan is made for
abbrev pub setup_of : PlanValue → Setup
setup_of plan = record {
  version = plan.version;
  bits = plan.bits;
  strikes = plan.strikes;
  nodes = length plan.nodes;
  steps = map (most_acts plan.version) (step_counts plan);
}

-- each driver did the first steps that the plan has for it
abbrev pub AreFirst : PlanValue → List (List StepRun) → Type 0
AreFirst plan step_runs = (node : ℕ) → node < length plan.nodes →
    map (λ (a : StepRun). a.step) (step_runs_at step_runs node)
    ≡ take (length (step_runs_at step_runs node)) (steps_at plan node)

-- a run that was made for this and stands at these steps may be one of this plan: its version, nodes and strikes are,
-- and so are the steps that were done
pub record MayBeOf (plan : PlanValue) (setup : Setup) (step_runs : List (List StepRun)) : Type 0 where
  pub version : setup.version ≡ plan.version
  pub strikes : setup.strikes ≡ plan.strikes
  pub nodes : setup.nodes ≡ length plan.nodes
  pub first : AreFirst plan step_runs

-- ---- the log

-- the log of a run of this plan that stands at these steps and ends so: what is promised of every run, its bits and
-- journals are the run's, its steps are those, its drivers are in time, and its ports have registers
pub record IsLogOf (plan : PlanValue) (r : SerialValue) (step_runs : List (List StepRun)) (end : End) (log : RunValue) :
    Type 0 where
  pub run : IsRun plan log (all_acts step_runs)
  pub steps : (k : ℕ) (d : NodeValue) → k < length log.nodes →
      AreFirstSteps (steps_at plan k) (slice_index_or log.nodes k d) (step_runs_at step_runs k)
  pub bits : log.bits ≡ r.bits
  pub ends : log.end ≡ end
  pub journals : journals_in log ≡ r.bus.journals
  pub in_time : (k : ℕ) (d : NodeValue) → k < length log.nodes →
      IsInTime plan.version (slice_index_or log.nodes k d).journal (acts_in (step_runs_at step_runs k))
  pub registers : HaveRegisters plan log step_runs

-- how far a run has come that stands at these steps
abbrev pub progress : SerialValue → List (List StepRun) → Progress
progress r step_runs = record { bits = r.bits; done = map (λ (l : List StepRun). length l) step_runs }
