use Rattle.std.proofs.Common.{◌≡◌, ◌++◌, string_bytes}
use Rattle.std.specs.List.{range_with_len}
use Rattle.lemmas.specs.Gathering.{gathered}
use Rattle.sja_sweep.specs.Nodes.{activation_at}
use Rattle.sja_sweep.specs.Changes.{activation_items}
use Rattle.sja_sweep.proofs.activations.put_activations.Given as goal

-- what was written of those so far
abbrev pub invariant-loop-place : goal.invariant-loop-place
invariant-loop-place l =
    string_bytes l.text ≡ string_bytes l.fn.text
    ++ gathered (λ a. activation_items l.node a
    (activation_at l.without a) (activation_at l.now a)) (range_with_len 0 l.place)
