use Rattle.std.proofs.Common.{◌≡◌, ◌+◌, ◌-◌, length}
use Rattle.sja_journal.specs.Lists.{OthersStand, on}
use Rattle.sja_link.specs.Looking.{Pulls, one_if}
use Rattle.sja_link.proofs.driver_ledger.DriverLedger.pull.Given as goal

abbrev pub invariant-loop : goal.invariant-loop
invariant-loop g l = record {
  id : l.self.id ≡ l.initial.self.id;
  same : g.E.DriverEnd.same l.initial.end l.end;
  others : OthersStand g.E.DriverEnd.stands l.initial.self.id.activation l.initial.end l.end;
  got : Pulls (on g.E.DriverEnd.stands l.initial.self.id.activation) l.initial.end l.end l.initial.self.held.items
      l.self.held.items l.initial.self.off l.self.off;
}

abbrev pub decreases-loop : goal.decreases-loop
decreases-loop g l = 23 - (length l.self.held.items + one_if l.self.off)
