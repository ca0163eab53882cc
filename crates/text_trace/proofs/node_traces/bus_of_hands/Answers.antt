use Rattle.text_trace.specs.declared.node_trace.NodeTrace.{NodeTrace}
use Rattle.text_trace.specs.Telling.{at_hand}
use Rattle.text_trace.specs.Hands.{driven_of}
use Rattle.text_report.proofs.NodeTallies.BusLevels.{drives_more, all_drive}
use Rattle.text_trace.proofs.node_traces.bus_of_hands.Goals as goal

pub loop-node_trace-preserved : goal.loop-node_trace-preserved
loop-node_trace-preserved c =
    drives_more (λ (t : NodeTrace). driven_of t.short (at_hand t.bits)) c.args.node_traces.now
    c.loop-node_trace.node_trace-index
    c.node_trace-item.result c.loop-node_trace.bus _ _
    c.loop-node_trace-test.true c.node_trace-item.is (rw (c.driven_of.ensures, c.bit.ensures) at
    c.with_node-bus.ensures)
    c.loop-node_trace.invariant

pub returns : goal.returns
returns c =
    all_drive (λ (t : NodeTrace). driven_of t.short (at_hand t.bits)) c.args.node_traces.now
    c.loop-node_trace.node_trace-index
    c.loop-node_trace.bus _ c.loop-node_trace-test.false c.loop-node_trace.invariant
