use Rattle.std.proofs.Common.{◌≡◌, ◌-◌, length}
use Rattle.std.specs.List.{list_any, range_with_len}
use Rattle.sja_sweep.specs.Nodes.{activation_at}
use Rattle.sja_sweep.specs.Kinds.{gets_more, some_gets_more}
use Rattle.sja_sweep.proofs.gains.some_gets_more.Given as goal

-- in none of the activations so far
abbrev pub invariant-loop-place : goal.invariant-loop-place
invariant-loop-place l =
    list_any (λ a. gets_more (activation_at l.activations a) (activation_at l.others a))
    (range_with_len l.place (length l.activations - l.place))
    ≡ some_gets_more l.activations l.others
