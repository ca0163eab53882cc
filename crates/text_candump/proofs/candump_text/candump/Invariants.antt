use Rattle.std.proofs.Common.{◌-◌, ◌≤◌, string_bytes}
use Rattle.text_candump.specs.Inside.CandumpProgress.{IsUpTo}
use Rattle.text_candump.proofs.candump_text.candump.Given as goal

-- the lines of the bits so far were written
abbrev pub invariant-loop-bit : goal.invariant-loop-bit
invariant-loop-bit l = record {
  most : l.bit ≤ l.log.bits;
  text : IsUpTo l.errors l.log.nodes l.bit l.all.items (string_bytes l.text);
}

abbrev pub decreases-loop-bit : goal.decreases-loop-bit
decreases-loop-bit l = l.log.bits - l.bit
