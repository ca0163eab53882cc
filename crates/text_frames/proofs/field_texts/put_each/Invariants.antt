use Rattle.std.proofs.Common.{◌≡◌, ◌++◌, drop, string_bytes}
use Rattle.lemmas.specs.Gathering.{gathered}
use Rattle.text_frames.specs.FieldTexts.{field_or_bytes}
use Rattle.text_frames.proofs.field_texts.put_each.Given as goal

-- what was written, and what the rest gives, are the whole
abbrev pub invariant-loop-field : goal.invariant-loop-field
invariant-loop-field l =
    string_bytes l.text ++ gathered (field_or_bytes (l.how.0) (l.how.1) l.bits) (drop l.field-index l.fields)
    ≡ string_bytes l.fn.text ++ gathered (field_or_bytes (l.how.0) (l.how.1) l.bits) l.fields
