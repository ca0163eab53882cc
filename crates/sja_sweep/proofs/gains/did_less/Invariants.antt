use Rattle.std.proofs.Common.{◌≡◌, ◌-◌, length}
use Rattle.std.specs.Prelude.{nat_lt}
use Rattle.std.specs.List.{list_any, range_with_len}
use Rattle.sja_sweep.specs.Nodes.{node_at}
use Rattle.sja_sweep.specs.Kinds.{did_less}
use Rattle.sja_sweep.proofs.gains.did_less.Given as goal

-- none of the drivers so far did fewer steps
abbrev pub invariant-loop-node : goal.invariant-loop-node
invariant-loop-node l =
    list_any (λ k. nat_lt (length (node_at l.now k).done) (length (node_at l.without k).done))
    (range_with_len l.node (length l.now - l.node))
    ≡ did_less l.without l.now
