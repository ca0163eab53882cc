use Rattle.std.proofs.Common.{◌≡◌, ◌+◌, length, string_bytes, All}
use Rattle.sja_check.specs.Lines.{IsPlain}
use Rattle.sja_check.proofs.lines.line_of.Given as goal

-- the characters so far, and the room that is left
abbrev pub invariant-loop-byte : goal.invariant-loop-byte
invariant-loop-byte l = (length (string_bytes l.line) + l.room ≡ 100) × All IsPlain (string_bytes l.line)
