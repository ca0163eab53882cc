use Rattle.std.proofs.Common.{◌≤◌, ◌-◌, List}
use Rattle.sja_driver.specs.TypedActs.{TypedAct}
use Rattle.sja_serial.specs.Bits.{TakesBits}
use Rattle.sja_serial.specs.SerialPlaces.{IsElsewhere}
use Rattle.sja_serial.specs.Serial.{StandsAt, IsRunOf}
use Rattle.sja_serial.proofs.serial_run.SerialRun.place_turn.Given as goal

-- so many bits were run so far, before each of which the node wasn't there
abbrev pub invariant-loop-place : goal.invariant-loop-place
invariant-loop-place g l = record {
  most : l.run ≤ l.limit;
  bits : (acts : List (List TypedAct)) → StandsAt g.setup l.initial.self acts →
      TakesBits g.setup acts (IsElsewhere l.node l.place) l.initial.self l.run l.self;
  stays : IsRunOf g.setup l.self;
}

abbrev pub decreases-loop-place : goal.decreases-loop-place
decreases-loop-place g l = l.limit - l.run

abbrev pub ghost-is_at : goal.ghost-is_at
ghost-is_at g a = g.setup

abbrev pub ghost-bits_left : goal.ghost-bits_left
ghost-bits_left g a = g.setup

abbrev pub ghost-run_one_bit : goal.ghost-run_one_bit
ghost-run_one_bit g a = g.setup
