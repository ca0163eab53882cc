use Rattle.std.proofs.Common.{ℕ, ◌<◌, ◌≢◌}
use Rattle.std.specs.Prelude.{slice_index_or}
use Rattle.can_node.specs.Together.{GoesWith}
use Rattle.sja_bus.specs.declared.bus_node.BusNode.{BusNode}
use Rattle.sja_bus.proofs.together.others_go.Given as goal

-- each other one so far goes on
abbrev pub invariant-loop-k : goal.invariant-loop-k
invariant-loop-k l = record {
  go : (m : ℕ) (s t : BusNode) → m < l.k → m ≢ l.lead →
      GoesWith (slice_index_or l.bus_nodes l.lead s).node l.most (slice_index_or l.bus_nodes m t).node;
}
