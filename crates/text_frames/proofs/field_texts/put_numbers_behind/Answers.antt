use Rattle.text_frames.specs.FieldTexts.{number_behind}
use Rattle.text_frames.proofs.Fields.Bits.{gathered_at, gathered_end}
use Rattle.text_frames.proofs.field_texts.put_numbers_behind.Goals as goal

pub loop-bit-preserved : goal.loop-bit-preserved
loop-bit-preserved c =
    gathered_at number_behind c.args.bits.now c.loop-bit.bit-index _ _ _ _ c.loop-bit-test.true
    c.in_ok-write.ensures.bytes c.loop-bit.invariant

pub returns : goal.returns
returns c =
    gathered_end number_behind c.args.bits.now c.loop-bit.bit-index _ _ c.loop-bit-test.false c.loop-bit.invariant
