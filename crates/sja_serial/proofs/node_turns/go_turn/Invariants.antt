use Rattle.std.proofs.Common.{◌≡◌, Bool, List}
use Rattle.sja_driver.specs.StepRuns.{StepRun}
use Rattle.sja_serial.specs.Inside.SerialProgress.{StandsIn}
use Rattle.sja_serial.specs.Inside.Rounds.{TakesGo}
use Rattle.sja_serial.specs.Serial.{SerialValue, setup_in}
use Rattle.sja_serial.proofs.node_turns.go_turn.Given as goal

-- whatever drivers come to by themselves from here, they come to from where they began
abbrev pub invariant-loop : goal.invariant-loop
invariant-loop l = record {
  bits : l.run.bits ≡ l.counter;
  goes : (step_runs : List (List StepRun)) → StandsIn l.plan l.initial.run step_runs →
      (mid : List (List StepRun)) × StandsIn l.plan l.run mid
      × ((last : SerialValue) (whole : Bool) → TakesGo l.plan mid l.run last whole →
      TakesGo l.plan step_runs l.initial.run last whole);
}

abbrev pub ghost-rest_turn : goal.ghost-rest_turn
ghost-rest_turn a = setup_in a.self.now

abbrev pub ghost-bus_turn : goal.ghost-bus_turn
ghost-bus_turn a = setup_in a.self.now
