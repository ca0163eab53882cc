use Rattle.text_frames.proofs.Fields.Bits.{last_more}
use Rattle.text_frames.proofs.field_texts.last_number.Goals as goal

pub loop-bit-preserved : goal.loop-bit-preserved
loop-bit-preserved c =
    last_more c.args.first.now c.args.rest.now c.loop-bit.bit-index _ c.loop-bit-test.true
