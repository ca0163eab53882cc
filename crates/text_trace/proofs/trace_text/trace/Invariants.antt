use Rattle.std.proofs.Common.{◌-◌, ◌≤◌, string_bytes}
use Rattle.text_trace.specs.Passing.{ComesTo}
use Rattle.text_trace.proofs.trace_text.trace.Given as goal

-- the lines of the bits so far were written
abbrev pub invariant-loop-bit : goal.invariant-loop-bit
invariant-loop-bit l = record {
  most : l.bit ≤ l.log.bits;
  text : ComesTo l.plan l.log.nodes l.bit l.node_traces.items (string_bytes l.text);
}

abbrev pub decreases-loop-bit : goal.decreases-loop-bit
decreases-loop-bit l = l.log.bits - l.bit
