use Rattle.std.proofs.Common.{◌≡◌, ◌++◌, string_bytes}
use Rattle.std.specs.List.{range_with_len}
use Rattle.lemmas.specs.Gathering.{gathered}
use Rattle.sja_sweep.specs.Nodes.{activation_at}
use Rattle.sja_sweep.specs.SweepText.{short_activation}
use Rattle.sja_sweep.proofs.planned_line.put_short_node.Given as goal

-- what was written of those so far
abbrev pub invariant-loop-place : goal.invariant-loop-place
invariant-loop-place l =
    string_bytes l.text ≡ string_bytes l.fn.text
    ++ gathered (λ a. short_activation l.number a (activation_at l.activations a)) (range_with_len 0 l.place)
