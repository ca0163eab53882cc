use Rattle.std.proofs.Common.{◌≡◌, length}
use Rattle.std.specs.Io.KnownBytes.{Keeps}
use Rattle.sja_live.proofs.next_line.next_byte.Given as goal

-- no byte was read
abbrev pub invariant-loop : goal.invariant-loop
invariant-loop g l = record {
  keeps : Keeps (g.R.Read.remaining l.fn.input) (g.R.Read.remaining l.input);
  one : length l.byte ≡ 1;
}
