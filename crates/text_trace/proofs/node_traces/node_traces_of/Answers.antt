use Rattle.std.proofs.Common.{arith, rules, refl}
use Rattle.text_trace.proofs.Stories.NodeStories.{begun_none, begun_more, begun_all}
use Rattle.text_trace.proofs.SoFar.UpTo.{up_first}
use Rattle.text_trace.proofs.node_traces.node_traces_of.Goals as goal

pub loop-node-init : goal.loop-node-init
loop-node-init c = record {
  begun = begun_none c.args.plan.now c.args.nodes.now c.new-node_traces.result.items (search rules);
  number = refl;
}

pub loop-node-preserved : goal.loop-node-preserved
loop-node-preserved c = record {
  begun = begun_more c.args.plan.now c.args.nodes.now c.loop-node.node-index c.loop-node.number c.node-item.result _ _ _
      _ _ _ c.loop-node-test.true c.node-item.is c.loop-node.invariant.number (search rules) c.steps_of.ensures
      c.loop-node.invariant.begun c.of-node_trace.ensures c.in_ok-push.ensures.items;
  number = let n = c.loop-node.invariant.number in omega (arith, n);
}

pub returns : goal.returns
returns c =
    up_first c.args.plan.now c.args.nodes.now _
    (begun_all c.args.plan.now c.args.nodes.now c.loop-node.node-index _ c.loop-node-test.false
    c.loop-node.invariant.begun)
