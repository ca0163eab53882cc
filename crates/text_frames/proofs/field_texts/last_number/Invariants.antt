use Rattle.std.proofs.Common.{◌≡◌, take}
use Rattle.text_frames.specs.FieldTexts.{last_number}
use Rattle.text_frames.proofs.field_texts.last_number.Given as goal

-- the number of the last one so far
abbrev pub invariant-loop-bit : goal.invariant-loop-bit
invariant-loop-bit l = l.last ≡ last_number l.first (take l.bit-index l.rest)
