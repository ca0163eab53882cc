use Rattle.std.proofs.Common.{◌≡◌, ◌<◌, ℕ, true}
use Rattle.std.specs.Prelude.{slice_index_or}
use Rattle.sja_bus.specs.declared.struck_nodes.StruckNodes.{StruckNodes}
use Rattle.sja_bus.specs.Inside.StrikesByBit.{IsAmong}
use Rattle.sja_bus.proofs.struck_table.are_calm.Given as goal

-- none is struck in the bits so far
abbrev pub invariant-loop-k : goal.invariant-loop-k
invariant-loop-k l =
    l.none ≡ true → (bit node : ℕ) (d : StruckNodes) → bit < l.k → IsAmong node (slice_index_or l.struck bit d) → ⊥
