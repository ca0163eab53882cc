use Rattle.std.proofs.Common.{refl, add-one}
use Rattle.lemmas.proofs.Gathered.{counted_here, not_counted_here}
use Rattle.sja_link.specs.World.{is_start}
use Rattle.sja_link.proofs.JournalEntries.Counting.{not_start}
use Rattle.sja_link.proofs.counts.starts.Goals as goal

pub returns-in-Start-clause-yes : goal.returns-in-Start-clause-yes
returns-in-Start-clause-yes c = λ _. counted_here is_start _ _ _ _ c.loop-item-test.true
    c.item-item.is c.in-Start.is refl

pub loop-item-preserved : goal.loop-item-preserved
loop-item-preserved c =
    rw add-one (not_counted_here is_start _ _ _ c.loop-item-test.true c.item-item.is
    (not_start _ c.in_default.not-Start) c.loop-item.invariant)
