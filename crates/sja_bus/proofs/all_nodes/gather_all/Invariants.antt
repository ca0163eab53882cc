use Rattle.sja_bus.specs.Inside.Rows.{BusNodeUntold}
use Rattle.sja_bus.proofs.AllNodes.Begins.{BusNodeTakesWithin}
use Rattle.sja_bus.proofs.AllNodes.Rows.{HaveTaken}
use Rattle.sja_bus.proofs.all_nodes.gather_all.Given as goal

abbrev pub invariant-loop-k : goal.invariant-loop-k
invariant-loop-k g l = HaveTaken g.E.BusEnd.same g.E.BusEnd.stands g.E.BusEnd.dry
    (BusNodeTakesWithin g.E.BusEnd.links l.initial.links) BusNodeUntold l.initial.bus_nodes l.initial.links l.k
    l.bus_nodes l.links
