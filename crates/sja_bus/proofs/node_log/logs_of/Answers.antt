use Rattle.std.proofs.Common.{rules}
use Rattle.std.specs.Vec.Iter.{into_iter_items}
use Rattle.sja_journal.specs.BoundedHistories.{KeepsAll}
use Rattle.sja_bus.proofs.WholeBus.Logs.{all_of_rest, all_with_rest, logs_push}
use Rattle.sja_bus.proofs.node_log.logs_of.Goals as goal

pub loop-bus_node-preserved : goal.loop-bus_node-preserved
loop-bus_node-preserved c = record {
  room = search rules;
  kept = λ later. c.loop-bus_node.invariant.kept (all_with_rest (λ s. KeepsAll s.journal.room.all) c.in-Some.bus_node
      (into_iter_items c.next.new.self) (into_iter_items c.loop-bus_node.bus_node-iterator) c.in-Some.ensures.steps.0
      c.in_ok-into_log.ensures.kept later);
  rest = λ all. (all_of_rest (λ s. KeepsAll s.journal.room.all) c.in-Some.bus_node (into_iter_items c.next.new.self)
      (into_iter_items c.loop-bus_node.bus_node-iterator) c.in-Some.ensures.steps.0 (c.loop-bus_node.invariant.rest
      all)).1;
  done = rw c.push_reserved.ensures.items
      (logs_push c.args.bus_nodes.items (into_iter_items c.loop-bus_node.bus_node-iterator)
      (into_iter_items c.next.new.self)
      c.loop-bus_node.logs.items c.in-Some.bus_node _ c.in-Some.ensures.steps.0 c.in_ok-into_log.ensures.log
      c.loop-bus_node.invariant.done);
}
