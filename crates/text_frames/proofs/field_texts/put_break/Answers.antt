use Rattle.text_frames.proofs.field_texts.put_break.Goals as goal

pub returns : goal.returns
returns c = rw (c.cause_name-cause.ensures, c.segment_name-segment.ensures) at c.write.ensures.bytes
