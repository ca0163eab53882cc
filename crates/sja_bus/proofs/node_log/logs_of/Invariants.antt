use Rattle.std.proofs.Common.{◌+◌, ◌≤◌, vec_len, vec_capacity}
use Rattle.std.specs.List.{All}
use Rattle.sja_journal.specs.BoundedHistories.{KeepsAll}
use Rattle.std.specs.Vec.Iter.{into_iter_items, into_iter_len}
use Rattle.sja_bus.proofs.WholeBus.Logs.{LogsSoFar}
use Rattle.sja_bus.proofs.node_log.logs_of.Given as goal

abbrev pub invariant-loop-bus_node : goal.invariant-loop-bus_node
invariant-loop-bus_node l = record {
  room : vec_len l.logs + into_iter_len l.bus_node-iterator ≤ vec_capacity l.logs;
  kept : All (λ s. KeepsAll s.journal.room.all) (into_iter_items l.bus_node-iterator)
      → All (λ s. KeepsAll s.journal.room.all) l.fn.bus_nodes.items;
  rest : All (λ s. KeepsAll s.journal.room.all) l.fn.bus_nodes.items
      → All (λ s. KeepsAll s.journal.room.all) (into_iter_items l.bus_node-iterator);
  done : LogsSoFar l.fn.bus_nodes.items (into_iter_items l.bus_node-iterator) l.logs.items;
}
