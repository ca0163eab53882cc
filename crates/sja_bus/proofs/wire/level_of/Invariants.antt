use Rattle.std.proofs.Common.{◌≡◌, drop}
use Rattle.can_levels.specs.BusLevel.{wired}
use Rattle.sja_bus.specs.Inside.Rows.{driven_by}
use Rattle.sja_bus.proofs.wire.level_of.Given as goal

abbrev pub invariant-loop-k : goal.invariant-loop-k
invariant-loop-k l = wired (driven_by l.bus_nodes) ≡ wired (driven_by (drop l.k l.bus_nodes))
