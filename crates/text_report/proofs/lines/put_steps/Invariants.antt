use Rattle.std.proofs.Common.{◌≡◌, ◌+◌, ◌++◌, drop, string_bytes}
use Rattle.text_report.specs.ReportLines.{lines_text, numbered, step_lines}
use Rattle.text_report.proofs.lines.put_steps.Given as goal

-- what was written, and the lines of the rest, are the whole
abbrev pub invariant-loop-step : goal.invariant-loop-step
invariant-loop-step l = record {
  text : string_bytes l.text ++ lines_text (numbered step_lines (l.number + 1) (drop l.step-index l.done))
      ≡ string_bytes l.fn.text ++ lines_text (numbered step_lines 1 l.done);
  number : l.number ≡ l.step-index;
}
