use Rattle.std.proofs.Common.{arith}
use Rattle.can_levels.specs.BusLevel.{wired}
use Rattle.text_trace.specs.Passing.{told_lines, hands_driven}
use Rattle.text_report.proofs.WrittenLines.Written.{numbered_next, numbered_end}
use Rattle.text_trace.proofs.frame_bits.put_bit.Goals as goal

pub loop-node_trace-preserved : goal.loop-node_trace-preserved
loop-node_trace-preserved c = record {
  text = numbered_next (told_lines (wired (hands_driven c.args.node_traces.now)) c.args.bit) c.args.node_traces.now
      c.loop-node_trace.node_trace-index c.loop-node_trace.number c.node_trace-item.result _ _ _
      c.loop-node_trace-test.true c.node_trace-item.is (rw c.bus_of_hands-bus.ensures at
      c.in_ok-put_unless_plain.ensures.text)
      c.loop-node_trace.invariant.text;
  number = let n = c.loop-node_trace.invariant.number in omega (arith, n);
}

pub returns : goal.returns
returns c = record {
  text = numbered_end (told_lines (wired (hands_driven c.args.node_traces.now)) c.args.bit) c.args.node_traces.now
      c.loop-node_trace.node_trace-index c.loop-node_trace.number _ _ c.loop-node_trace-test.false
      c.loop-node_trace.invariant.text;
}
