use Rattle.std.proofs.Common.{◌≡◌, ℕ, List, ◌+◌, ◌≤◌, ◌-◌}
use Rattle.sja_driver.specs.TypedActs.{TypedAct}
use Rattle.sja_serial.specs.Serial.{SerialValue, StandsAt}
use Rattle.sja_serial.proofs.ManyBits.SomeBits.{SomeBits}
use Rattle.sja_serial.proofs.serial_run.SerialRun.bus_turn.Given as goal

abbrev pub invariant-loop-run : goal.invariant-loop-run
invariant-loop-run g l = record {
  most : l.run ≤ l.count;
  some : (acts : List (List TypedAct)) → StandsAt g.setup l.initial.self acts →
      (more : ℕ) × (l.run ≡ l.initial.run + more)
      × SomeBits g.setup acts (λ (r : SerialValue). Unit {0}) l.initial.self l.self more;
}

abbrev pub decreases-loop-run : goal.decreases-loop-run
decreases-loop-run g l = l.count - l.run

abbrev pub ghost-run_busy_bits : goal.ghost-run_busy_bits
ghost-run_busy_bits g a = g.setup

abbrev pub ghost-bits_left : goal.ghost-bits_left
ghost-bits_left g a = g.setup

abbrev pub ghost-run_resting_bits : goal.ghost-run_resting_bits
ghost-run_resting_bits g a = g.setup
