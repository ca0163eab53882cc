use Rattle.std.proofs.Common.{◌≡◌}
use Rattle.sja_bus.proofs.ItemsTaken.Retrying.{IsRetried}
use Rattle.sja_bus.proofs.bus_node.BusNode.go_off.Given as goal

-- the bus node is as it was, and the end gave bus-off back each time
abbrev pub invariant-loop : goal.invariant-loop
invariant-loop g l = record {
  bus_node : l.self ≡ l.initial.self;
  put : IsRetried g.E.BusEnd l.counter l.initial.self.ledger l.self.ledger l.initial.end l.end;
}
