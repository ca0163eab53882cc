use Rattle.std.proofs.Common.{◌≡◌, ◌++◌, take}
use Rattle.std.specs.List.{flat_map}
use Rattle.text_codec.specs.BytesText.{spaced_digits}
use Rattle.text_codec.proofs.bytes_text.push_spaced.Given as goal

-- the bytes so far were pushed
abbrev pub invariant-loop-byte : goal.invariant-loop-byte
invariant-loop-byte l = l.text.items ≡ l.fn.text.items ++ flat_map spaced_digits (take l.byte-index l.bytes)
