use Rattle.std.proofs.Common.{◌≡◌, ◌≤◌, ◌++◌, drop}
use Rattle.text_frames.specs.FieldTexts.{byte_bits}
use Rattle.text_frames.proofs.byte_texts.byte_bits.Given as goal

-- what was taken, and what the rest gives, are the whole; no more data bits came than bits
abbrev pub invariant-loop-bit : goal.invariant-loop-bit
invariant-loop-bit l = record {
  bits : l.bits.items ++ byte_bits l.number l.before (drop l.bit-index l.own) ≡ byte_bits l.number 0 l.own;
  before : l.before ≤ l.bit-index;
}
