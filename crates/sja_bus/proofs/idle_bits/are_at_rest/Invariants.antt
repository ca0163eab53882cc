use Rattle.std.proofs.Common.{ℕ, ◌<◌, true}
use Rattle.std.specs.Prelude.{slice_index_or}
use Rattle.can_node.specs.Stands.{ShowsRest}
use Rattle.sja_bus.specs.declared.bus_node.BusNode.{BusNode}
use Rattle.sja_bus.proofs.idle_bits.are_at_rest.Given as goal

abbrev pub invariant-loop-k : goal.invariant-loop-k
invariant-loop-k l = record {
  rest : (m : ℕ) (s : BusNode) → m < l.k → ShowsRest (slice_index_or l.bus_nodes m s).node true;
}
