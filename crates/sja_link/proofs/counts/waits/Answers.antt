use Rattle.std.proofs.Common.{refl, add-one}
use Rattle.lemmas.proofs.Gathered.{counted_here, not_counted_here}
use Rattle.sja_link.specs.World.{is_send}
use Rattle.sja_link.proofs.JournalEntries.Counting.{not_send}
use Rattle.sja_link.proofs.counts.waits.Goals as goal

pub returns-in-Send-clause-yes : goal.returns-in-Send-clause-yes
returns-in-Send-clause-yes c = λ _. counted_here is_send _ _ _ _ c.loop-item-test.true c.item-item.is c.in-Send.is refl

pub loop-item-preserved : goal.loop-item-preserved
loop-item-preserved c =
    rw add-one (not_counted_here is_send _ _ _ c.loop-item-test.true c.item-item.is
    (not_send _ c.in_default.not-Send) c.loop-item.invariant)
