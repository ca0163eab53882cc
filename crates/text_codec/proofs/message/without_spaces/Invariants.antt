use Rattle.std.proofs.Common.{◌≡◌, ◌==◌, not, filter, take}
use Rattle.text_codec.proofs.message.without_spaces.Given as goal

-- what isn't a space so far
abbrev pub invariant-loop-byte : goal.invariant-loop-byte
invariant-loop-byte l = l.bytes.items ≡ filter (λ c. not (c == 32)) (take l.byte-index l.given)
