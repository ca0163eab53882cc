use Rattle.std.proofs.Common.{◌≡◌, ◌+◌, ◌++◌, drop, map, string_bytes}
use Rattle.text_report.specs.ReportLines.{lines_text, numbered}
use Rattle.text_report.specs.Inside.Tallies.{tally_value, tallied_lines}
use Rattle.text_report.proofs.report_text.put_tallied.Given as goal

-- what was written, and the lines of the rest, are the whole
abbrev pub invariant-loop-activation : goal.invariant-loop-activation
invariant-loop-activation l = record {
  text : string_bytes l.text
      ++ lines_text (numbered (tallied_lines (map tally_value l.tallies)) (l.number + 1)
      (drop l.activation-index l.activations))
      ≡ string_bytes l.fn.text ++ lines_text (numbered (tallied_lines (map tally_value l.tallies)) 1 l.activations);
  number : l.number ≡ l.activation-index;
}
