use Rattle.std.proofs.Common.{◌-◌, ◌≤◌, ◌<◌, ℕ, length}
use Rattle.std.specs.Prelude.{slice_index_or}
use Rattle.sja_bus.specs.declared.struck_nodes.StruckNodes.{StruckNodes}
use Rattle.sja_bus.specs.Inside.StrikesByBit.{IsAmong}
use Rattle.sja_bus.proofs.struck_table.next_in.Given as goal

-- nobody is struck in the bits so far
abbrev pub invariant-loop-at : goal.invariant-loop-at
invariant-loop-at l = record {
  on : l.from ≤ l.at;
  within : l.at ≤ length l.bits;
  calm : (bit node : ℕ) (d : StruckNodes) → l.from ≤ bit → bit < l.at →
      IsAmong node (slice_index_or l.bits bit d) → ⊥;
}

abbrev pub decreases-loop-at : goal.decreases-loop-at
decreases-loop-at l = length l.bits - l.at
