use Rattle.std.proofs.Common.{◌≡◌, ◌++◌, drop, string_bytes}
use Rattle.text_report.specs.ReportLines.{numbered}
use Rattle.can_levels.specs.BusLevel.{wired}
use Rattle.text_trace.specs.Passing.{told_lines, hands_driven}
use Rattle.text_trace.proofs.frame_bits.put_bit.Given as goal

-- what was written, and the lines of the rest, are the whole
abbrev pub invariant-loop-node_trace : goal.invariant-loop-node_trace
invariant-loop-node_trace l =
    let f = told_lines (wired (hands_driven l.node_traces)) l.bit in
    record {
      text : string_bytes l.text ++ numbered f l.number (drop l.node_trace-index l.node_traces)
          ≡ string_bytes l.fn.text ++ numbered f 0 l.node_traces;
      number : l.number ≡ l.node_trace-index;
    }
