use Rattle.std.proofs.Common.{◌≡◌, map}
use Rattle.std.specs.Prelude.{None, fold}
use Rattle.std.specs.List.{range_with_len}
use Rattle.sja_sweep.specs.FirstErrors.{earlier, first_of_node}
use Rattle.sja_sweep.proofs.first_error.first_error.Given as goal

-- the earliest one of the nodes so far
abbrev pub invariant-loop-node : goal.invariant-loop-node
invariant-loop-node l =
    l.earliest ≡ fold earlier None
    (map (first_of_node (map (λ v. v.items) l.without) (map (λ v. v.items) l.now)) (range_with_len 0 l.node))
