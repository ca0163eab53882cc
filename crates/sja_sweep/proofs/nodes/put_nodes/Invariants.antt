use Rattle.std.proofs.Common.{◌≡◌, ◌++◌, string_bytes}
use Rattle.std.specs.List.{range_with_len}
use Rattle.lemmas.specs.Gathering.{gathered}
use Rattle.std.specs.Option.{option_copied}
use Rattle.sja_sweep.specs.Steps.{script_at}
use Rattle.sja_sweep.specs.Nodes.{node_at}
use Rattle.sja_sweep.specs.Changes.{node_items}
use Rattle.sja_sweep.proofs.nodes.put_nodes.Given as goal

-- what was written of those so far
abbrev pub invariant-loop-node : goal.invariant-loop-node
invariant-loop-node l =
    string_bytes l.text ≡ string_bytes l.fn.text
    ++ gathered (λ k. node_items (script_at (option_copied l.out) k) k (node_at l.without k) (node_at l.now k))
    (range_with_len 0 l.node)
