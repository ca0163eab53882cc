use Rattle.std.proofs.Common.{ℕ, ◌<◌}
use Rattle.std.specs.Prelude.{slice_index_or}
use Rattle.sja_bus.specs.declared.bus_node.BusNode.{BusNode}
use Rattle.sja_bus.specs.Inside.Idling.{IsResting}
use Rattle.sja_bus.proofs.idle_bits.are_resting.Given as goal

-- each so far rests
abbrev pub invariant-loop-k : goal.invariant-loop-k
invariant-loop-k l = (m : ℕ) (s : BusNode) → m < l.k → IsResting (slice_index_or l.bus_nodes m s)
