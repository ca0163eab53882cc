use Rattle.std.proofs.Common.{List}
use Rattle.sja_driver.specs.StepRuns.{StepRun}
use Rattle.sja_serial.specs.Serial.{setup_in}
use Rattle.sja_serial.specs.Inside.SerialProgress.{StandsIn}
use Rattle.sja_serial.proofs.WholeRun.Steps.{SoFar}
use Rattle.sja_serial.proofs.node_turns.take_steps.Given as goal

-- so many steps are done
abbrev pub invariant-loop : goal.invariant-loop
invariant-loop l = (step_runs : List (List StepRun)) → StandsIn l.plan l.initial.run step_runs →
    SoFar l.plan l.initial.run l.run l.node step_runs l.counter

abbrev pub ghost-step : goal.ghost-step
ghost-step a = setup_in a.self.now
