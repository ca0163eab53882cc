use Rattle.std.proofs.Common.{◌≡◌, ◌++◌, drop, string_bytes}
use Rattle.text_report.specs.ReportLines.{numbered}
use Rattle.text_candump.specs.Inside.CandumpProgress.{hand_lines}
use Rattle.text_candump.proofs.candump_text.put_bit.Given as goal

-- what was written, and the lines of the rest, are the whole
abbrev pub invariant-loop-bits : goal.invariant-loop-bits
invariant-loop-bits l = record {
  text : string_bytes l.text ++ numbered (hand_lines l.errors l.bit) l.number (drop l.bits-index l.all)
      ≡ string_bytes l.fn.text ++ numbered (hand_lines l.errors l.bit) 0 l.all;
  number : l.number ≡ l.bits-index;
}
