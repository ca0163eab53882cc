use Rattle.std.proofs.Common.{arith}
use Rattle.can_bits.proofs.Packing.Marks.{mark_said}
use Rattle.can_bits.proofs.body_word.BodyWord.move_mark.Goals as goal

pub returns-then-self-head-2-clause-moved : goal.returns-then-self-head-2-clause-moved
returns-then-self-head-2-clause-moved c w packs some few =
    let place = packs.place_is in
    let head = c.head_end-head.ensures.value w packs in
    let said = c.if-self-head-2.true in
    let counted = c.level_count-self.ensures w packs (omega (arith, place, head, said)) in
    rw (mark_said w (omega (arith, place, head, said))) (omega (arith, counted))
