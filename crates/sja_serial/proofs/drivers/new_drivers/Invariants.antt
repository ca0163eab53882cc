use Rattle.std.proofs.Common.{◌≡◌, ◌≤◌, vec_capacity, length}
use Rattle.sja_promises.specs.NewDrivers.{AreNew}
use Rattle.sja_serial.proofs.drivers.new_drivers.Given as goal

abbrev pub invariant-loop-node : goal.invariant-loop-node
invariant-loop-node l = record {
  count : length l.drivers.items ≡ l.node;
  room : length l.steps ≤ vec_capacity l.drivers;
  new : AreNew l.version l.steps l.acts l.node l.drivers.items;
}
