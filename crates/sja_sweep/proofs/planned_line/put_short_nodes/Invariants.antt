use Rattle.std.proofs.Common.{◌≡◌, ◌++◌, string_bytes}
use Rattle.std.specs.List.{range_with_len}
use Rattle.lemmas.specs.Gathering.{gathered}
use Rattle.sja_sweep.specs.Nodes.{node_at}
use Rattle.sja_sweep.specs.SweepText.{short_node}
use Rattle.sja_sweep.proofs.planned_line.put_short_nodes.Given as goal

-- what was written of those so far
abbrev pub invariant-loop-number : goal.invariant-loop-number
invariant-loop-number l =
    string_bytes l.text ≡ string_bytes l.fn.text
    ++ gathered (λ k. short_node k (node_at l.nodes k)) (range_with_len 0 l.number)
