use Rattle.std.proofs.Common.{◌<◌, length}
use Rattle.std.specs.Io.KnownBytes.{Consumes}
use Rattle.sja_program.specs.Input.{most_read}
use Rattle.sja_program.proofs.input.read_input.Given as goal

-- the bytes so far are what was read, and there is room for more
abbrev pub invariant-loop : goal.invariant-loop
invariant-loop g l = record {
  read : Consumes (g.R.Read.remaining l.fn.input) (g.R.Read.remaining l.input) l.bytes.items;
  room : length l.bytes.items < most_read l.bytes.items;
}
