use Rattle.std.proofs.Common.{◌≡◌, length, vec_len, vec_capacity}
use Rattle.sja_bus_rules.specs.Reasons.{room_for}
use Rattle.sja_bus.specs.Inside.Refusing.{HaveRoom}
use Rattle.sja_bus.proofs.WholeBus.Logs.{AreNew}
use Rattle.sja_bus.proofs.bus.Bus.new.Given as goal

-- so many bus nodes were made, and there is room for all
abbrev pub invariant-loop-node : goal.invariant-loop-node
invariant-loop-node l = record {
  count : vec_len l.bus_nodes ≡ l.node;
  room : vec_capacity l.bus_nodes ≡ length l.steps.items;
  made : AreNew l.node l.bus_nodes.items;
  rooms : HaveRoom (room_for l.bits l.steps.items) l.bus_nodes.items;
}
