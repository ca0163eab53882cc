use Rattle.std.proofs.Common.{◌≡◌, ◌≤◌, vec_capacity}
use Rattle.sja_live.specs.Inside.Reading.{IsWithin}
use Rattle.sja_live.specs.Lines.{most_line}
use Rattle.sja_live.proofs.next_line.next_line.Given as goal

-- so many bytes of a line were read, in which no line feed stands, and as many of them are kept as a line has at most
abbrev pub invariant-loop : goal.invariant-loop
invariant-loop g l = record {
  within : IsWithin (g.R.Read.remaining l.fn.input) (g.R.Read.remaining l.input) l.bytes.items l.count;
  room : most_line ≤ vec_capacity l.bytes;
  count : l.count ≡ l.counter;
}
