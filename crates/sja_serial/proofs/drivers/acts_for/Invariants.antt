use Rattle.std.proofs.Common.{◌≡◌, ◌≤◌, length, map, take, vec_capacity}
use Rattle.sja_driver.specs.StepRuns.{most_acts}
use Rattle.sja_serial.proofs.drivers.acts_for.Given as goal

abbrev pub invariant-loop-many : goal.invariant-loop-many
invariant-loop-many l = record {
  room : length l.steps ≤ vec_capacity l.acts;
  items : l.acts.items ≡ map (most_acts l.version) (take l.many-index l.steps);
}
