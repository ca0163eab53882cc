use Rattle.std.proofs.Common.{arith}
use Rattle.text_trace.specs.TraceProgress.{late_lines}
use Rattle.text_report.proofs.WrittenLines.Written.{numbered_next, numbered_end}
use Rattle.text_trace.proofs.trace_text.put_late_steps.Goals as goal

pub loop-node_trace-preserved : goal.loop-node_trace-preserved
loop-node_trace-preserved c = record {
  text = numbered_next (late_lines c.args.bits) c.args.node_traces.now
      c.loop-node_trace.node_trace-index c.loop-node_trace.number c.node_trace-item.result _ _ _
      c.loop-node_trace-test.true c.node_trace-item.is c.in_ok-put_steps.ensures c.loop-node_trace.invariant.text;
  number = let n = c.loop-node_trace.invariant.number in omega (arith, n);
}

pub returns : goal.returns
returns c =
    numbered_end (late_lines c.args.bits) c.args.node_traces.now
    c.loop-node_trace.node_trace-index c.loop-node_trace.number _ _ c.loop-node_trace-test.false
    c.loop-node_trace.invariant.text
