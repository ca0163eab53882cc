use Rattle.std.proofs.Common.{◌-◌, length}
use Rattle.sja_link.specs.Moving.{Goes}
use Rattle.sja_journal.specs.BitEntries.{MayHaveItems}
use Rattle.sja_journal.specs.Opening.{BeginsWithin}
use Rattle.sja_bus.specs.Inside.BusNodes.{IsReady}
use Rattle.sja_bus.specs.Inside.AtLinks.{KeepsEnd}
use Rattle.sja_bus.specs.Inside.Turning.{TakesUntold}
use Rattle.sja_bus.proofs.bus_node.BusNode.gather.Given as goal

abbrev pub invariant-loop : goal.invariant-loop
invariant-loop g l = record {
  ready : IsReady l.self;
  stays : KeepsEnd g.E.BusEnd.same l.initial.self l.self l.initial.end l.end;
  goes : Goes g.E.BusEnd.same g.E.BusEnd.stands l.initial.end l.end l.initial.self.journal.entries
      l.self.journal.entries;
  items : MayHaveItems l.initial.self.journal.entries l.self.journal.entries;
  within : BeginsWithin (g.E.BusEnd.links l.initial.end) l.initial.self.journal.entries l.self.journal.entries;
  untold : TakesUntold l.initial.self l.self;
}

abbrev pub decreases-loop : goal.decreases-loop
decreases-loop g l = l.self.journal.room.all - length l.self.journal.entries
