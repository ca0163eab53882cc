use Rattle.std.proofs.Common.{◌≡◌, ◌<◌, ℕ}
use Rattle.std.specs.Prelude.{slice_index_or}
use Rattle.sja_bus.proofs.node_links.are_links_of.Given as goal

-- the ends so far are those of the nodes in order, each with so many links
abbrev pub invariant-loop-node : goal.invariant-loop-node
invariant-loop-node g l = record {
  own : (k : ℕ) (d : _) → k < l.node → g.E.BusEnd.node (slice_index_or l.links k d) ≡ k;
  many : (k : ℕ) (d : _) → k < l.node → g.E.BusEnd.links (slice_index_or l.links k d) ≡ l.starts;
}
