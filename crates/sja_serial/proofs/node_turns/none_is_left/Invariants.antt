use Rattle.std.proofs.Common.{◌<◌, ◌≤◌, ℕ, List, length}
use Rattle.sja_plan.specs.Plan.{steps_at}
use Rattle.sja_driver.specs.StepRuns.{StepRun, step_runs_at}
use Rattle.sja_serial.specs.Inside.SerialProgress.{StandsIn}
use Rattle.sja_serial.proofs.node_turns.none_is_left.Given as goal

-- the drivers so far have no step left
abbrev pub invariant-loop-node : goal.invariant-loop-node
invariant-loop-node l = (step_runs : List (List StepRun)) → StandsIn l.plan l.run step_runs → (k : ℕ) → k < l.node →
    length (steps_at l.plan k) ≤ length (step_runs_at step_runs k)
