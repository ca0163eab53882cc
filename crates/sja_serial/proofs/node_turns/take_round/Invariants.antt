use Rattle.std.proofs.Common.{◌≡◌, List}
use Rattle.sja_driver.specs.StepRuns.{StepRun}
use Rattle.sja_serial.specs.Inside.SerialProgress.{StandsIn}
use Rattle.sja_serial.specs.Inside.Rounds.{TakesAll}
use Rattle.sja_serial.specs.Serial.{SerialValue}
use Rattle.sja_serial.proofs.node_turns.take_round.Given as goal

-- whatever a round from the next node on comes to, the round comes to
abbrev pub invariant-loop-node : goal.invariant-loop-node
invariant-loop-node l = record {
  bits : l.run.bits ≡ l.initial.run.bits;
  goes : (step_runs : List (List StepRun)) → StandsIn l.plan l.initial.run step_runs →
      (mid : List (List StepRun)) × StandsIn l.plan l.run mid
      × ((after : List (List StepRun)) (last : SerialValue) → TakesAll l.plan l.node mid l.run after last →
      TakesAll l.plan 0 step_runs l.initial.run after last);
}
