use Rattle.std.proofs.Common.{◌≡◌, ◌++◌, drop, string_bytes}
use Rattle.text_report.specs.ReportLines.{numbered}
use Rattle.text_trace.specs.TraceProgress.{late_lines}
use Rattle.text_trace.proofs.trace_text.put_late_steps.Given as goal

-- what was written, and the lines of the rest, are the whole
abbrev pub invariant-loop-node_trace : goal.invariant-loop-node_trace
invariant-loop-node_trace l = record {
  text : string_bytes l.text ++ numbered (late_lines l.bits) l.number (drop l.node_trace-index l.node_traces)
      ≡ string_bytes l.fn.text ++ numbered (late_lines l.bits) 0 l.node_traces;
  number : l.number ≡ l.node_trace-index;
}
