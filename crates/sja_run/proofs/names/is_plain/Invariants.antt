use Rattle.std.proofs.Common.{take, All}
use Rattle.sja_run.proofs.ShownNames.{IsPlainByte}
use Rattle.sja_run.proofs.names.is_plain.Given as goal

-- those so far are no control characters, and begin none
abbrev pub invariant-loop-byte : goal.invariant-loop-byte
invariant-loop-byte l = All IsPlainByte (take l.byte-index l.bytes)
