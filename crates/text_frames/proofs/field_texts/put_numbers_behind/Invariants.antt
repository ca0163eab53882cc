use Rattle.std.proofs.Common.{◌≡◌, ◌++◌, drop, string_bytes}
use Rattle.text_frames.specs.FieldTexts.{numbers_behind}
use Rattle.text_frames.proofs.field_texts.put_numbers_behind.Given as goal

-- what was written, and the numbers of the rest, are the whole
abbrev pub invariant-loop-bit : goal.invariant-loop-bit
invariant-loop-bit l =
    string_bytes l.text ++ numbers_behind (drop l.bit-index l.bits)
    ≡ string_bytes l.fn.text ++ numbers_behind l.bits
