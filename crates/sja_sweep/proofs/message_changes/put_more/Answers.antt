use Rattle.std.proofs.Common.{cond, []}
use Rattle.sja_sweep.specs.Messages.{message_at, message_item, is_more}
use Rattle.sja_sweep.proofs.NumberLists.Ranges.{text_more}
use Rattle.sja_sweep.proofs.message_changes.put_more.Goals as goal

pub loop-place-preserved : goal.loop-place-preserved
loop-place-preserved c =
    text_more (λ i. cond (is_more c.args.list.now c.args.other.now i)
    (message_item c.args.of.now c.args.word.now (message_at c.args.list.now i)) [])
    c.loop-place.place _ _ _ c.loop-place.invariant
    c.in_ok-put_if_more.ensures
