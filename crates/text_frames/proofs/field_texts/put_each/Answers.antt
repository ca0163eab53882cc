use Rattle.text_frames.specs.FieldTexts.{field_or_bytes}
use Rattle.text_frames.proofs.Fields.Bits.{gathered_at, gathered_end}
use Rattle.text_frames.proofs.field_texts.put_each.Goals as goal

pub loop-field-preserved : goal.loop-field-preserved
loop-field-preserved c =
    gathered_at (field_or_bytes (c.args.how.0) (c.args.how.1) c.args.bits.now) c.args.fields.now
    c.loop-field.field-index _ _ _ _ c.loop-field-test.true c.in_ok-put_field.ensures c.loop-field.invariant

pub returns : goal.returns
returns c =
    gathered_end (field_or_bytes (c.args.how.0) (c.args.how.1) c.args.bits.now) c.args.fields.now
    c.loop-field.field-index _ _ c.loop-field-test.false c.loop-field.invariant
