use Rattle.std.proofs.Common.{ℕ, ◌<◌}
use Rattle.sja_bus.specs.Inside.Rows.{BusNodeOpensUntold}
use Rattle.sja_bus.proofs.AllNodes.Begins.{BusNodeOpensWithin}
use Rattle.sja_bus.proofs.AllNodes.Rows.{HaveTaken}
use Rattle.sja_bus.proofs.all_nodes.open_all.Given as goal

abbrev pub invariant-loop-k : goal.invariant-loop-k
invariant-loop-k g l = record {
  taken : HaveTaken g.E.BusEnd.same g.E.BusEnd.stands g.E.BusEnd.dry
      (BusNodeOpensWithin (g.B.Board.orders_are l.board) g.E.BusEnd.links l.initial.links) BusNodeOpensUntold
      l.initial.bus_nodes
      l.initial.links l.k l.bus_nodes l.links;
  facts : (m : ℕ) → m < l.k → g.B.Board.facts l.board m;
}
