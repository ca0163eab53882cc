use Rattle.std.proofs.Common.{◌≡◌, ◌-◌, length}
use Rattle.std.specs.List.{list_any, range_with_len}
use Rattle.sja_sweep.specs.Nodes.{node_at}
use Rattle.sja_sweep.specs.Kinds.{got_more, some_gets_more}
use Rattle.sja_sweep.proofs.gains.got_more.Given as goal

-- none of the nodes so far got more
abbrev pub invariant-loop-node : goal.invariant-loop-node
invariant-loop-node l =
    list_any (λ k. some_gets_more (node_at l.nodes k).activations (node_at l.others k).activations)
    (range_with_len l.node (length l.nodes - l.node))
    ≡ got_more l.nodes l.others
