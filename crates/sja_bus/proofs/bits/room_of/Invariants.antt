use Rattle.std.proofs.Common.{◌≡◌, ℕ, ◌-◌, ◌<◌, ◌≤◌, length}
use Rattle.std.specs.Prelude.{◌⊎◌, slice_index_or}
use Rattle.sja_bus.specs.declared.bus_node.BusNode.{BusNode}
use Rattle.sja_bus.specs.Inside.RunningOn.{SomeFull}
use Rattle.sja_bus.proofs.bits.room_of.Given as goal

-- so many find room in those so far
abbrev pub invariant-loop-k : goal.invariant-loop-k
invariant-loop-k l = record {
  most : l.free ≤ l.most;
  free : (m : ℕ) (s : BusNode) → m < l.k → m < length l.bus_nodes →
      l.free ≤ (slice_index_or l.bus_nodes m s).journal.room.all - length
      (slice_index_or l.bus_nodes m s).journal.entries;
  least : (l.free ≡ l.most) ⊎ SomeFull l.free l.bus_nodes;
}
