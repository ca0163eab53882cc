use Rattle.std.proofs.Common.{refl, add-one}
use Rattle.lemmas.proofs.Gathered.{counted_here, not_counted_here}
use Rattle.sja_link.specs.World.{is_stop}
use Rattle.sja_link.proofs.JournalEntries.Counting.{not_stop}
use Rattle.sja_link.proofs.counts.stops.Goals as goal

pub returns-in-Stop-clause-yes : goal.returns-in-Stop-clause-yes
returns-in-Stop-clause-yes c = λ _. counted_here is_stop _ _ _ _ c.loop-item-test.true c.item-item.is c.in-Stop.is refl

pub loop-item-preserved : goal.loop-item-preserved
loop-item-preserved c =
    rw add-one (not_counted_here is_stop _ _ _ c.loop-item-test.true c.item-item.is
    (not_stop _ c.in_default.not-Stop) c.loop-item.invariant)
