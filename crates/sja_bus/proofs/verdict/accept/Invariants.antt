use Rattle.sja_bus.proofs.ItemsTaken.Retrying.{IsRetried}
use Rattle.sja_bus.proofs.verdict.accept.Given as goal

abbrev pub invariant-loop : goal.invariant-loop
invariant-loop g l = IsRetried g.E.BusEnd l.counter l.initial.ledger l.ledger l.initial.end l.end
