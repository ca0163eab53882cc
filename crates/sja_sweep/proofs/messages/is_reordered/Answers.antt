use Rattle.std.proofs.Common.{◌≡◌, not, true, false, length}
use Rattle.std.specs.Str.{bytes_eq}
use Rattle.sja_sweep.specs.Messages.{message_at}
use Rattle.sja_sweep.proofs.NumberLists.Searches.{any_more}
use Rattle.sja_sweep.proofs.messages.is_reordered.Goals as goal

pub loop-place-preserved : goal.loop-place-preserved
loop-place-preserved c =
    let same : not (bytes_eq (message_at c.args.without.now c.loop-place.place)
    (message_at c.args.now.now c.loop-place.place)) ≡ false = cc in
    any_more (λ i. not (bytes_eq (message_at c.args.without.now i) (message_at c.args.now.now i)))
    c.loop-place.place (length c.args.now.now) _ c.loop-place-test.true same c.loop-place.invariant
