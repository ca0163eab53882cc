use Rattle.std.proofs.Common.{ℕ, ◌<◌, ◌≢◌}
use Rattle.std.specs.Prelude.{slice_index_or}
use Rattle.can_node.specs.Together.{GoesWith}
use Rattle.sja_bus.specs.declared.bus_node.BusNode.{BusNode}
use Rattle.sja_bus.proofs.stray.rest_goes.Given as goal

-- each so far but those two goes on
abbrev pub invariant-loop-k : goal.invariant-loop-k
invariant-loop-k l = record {
  go : (m : ℕ) (s t : BusNode) → m < l.k → m ≢ l.lead → m ≢ l.stray →
      GoesWith (slice_index_or l.bus_nodes l.lead s).node l.most (slice_index_or l.bus_nodes m t).node;
}
