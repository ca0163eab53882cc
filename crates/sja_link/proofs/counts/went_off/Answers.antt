use Rattle.std.proofs.Common.{refl, add-one}
use Rattle.lemmas.proofs.Gathered.{counted_here, not_counted_here}
use Rattle.sja_link.specs.World.{is_off}
use Rattle.sja_link.proofs.JournalEntries.Counting.{not_off}
use Rattle.sja_link.proofs.counts.went_off.Goals as goal

pub returns-in-Off-clause-yes : goal.returns-in-Off-clause-yes
returns-in-Off-clause-yes c = λ _. counted_here is_off _ _ _ _ c.loop-item-test.true c.item-item.is c.in-Off.is refl

pub loop-item-preserved : goal.loop-item-preserved
loop-item-preserved c =
    rw add-one (not_counted_here is_off _ _ _ c.loop-item-test.true c.item-item.is
    (not_off _ c.in_default.not-Off) c.loop-item.invariant)
