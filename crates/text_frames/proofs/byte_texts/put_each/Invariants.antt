use Rattle.std.proofs.Common.{◌≡◌, ◌++◌, drop, string_bytes}
use Rattle.lemmas.specs.Gathering.{gathered}
use Rattle.text_frames.specs.FieldTexts.{byte_bits, field_text}
use Rattle.text_frames.proofs.byte_texts.put_each.Given as goal

-- what was written, and what the rest gives, are the whole
abbrev pub invariant-loop-byte : goal.invariant-loop-byte
invariant-loop-byte l =
    string_bytes l.text ++ gathered (λ b. field_text b.1.now (byte_bits b.0 0 l.own)) (drop l.byte-index l.bytes)
    ≡ string_bytes l.fn.text ++ gathered (λ b. field_text b.1.now (byte_bits b.0 0 l.own)) l.bytes
