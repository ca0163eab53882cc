use Rattle.std.proofs.Common.{rules, refl}
use Rattle.text_trace.proofs.Stories.NodeStories.{begun_none, begun_more, begun_all}
use Rattle.text_picture.specs.Pages.{no_plan}
use Rattle.text_picture.proofs.picture_text.node_traces_of.Goals as goal

pub loop-node-init : goal.loop-node-init
loop-node-init c = begun_none no_plan c.args.nodes.now c.new-node_traces.result.items (search rules)

pub loop-node-preserved : goal.loop-node-preserved
loop-node-preserved c =
    begun_more no_plan c.args.nodes.now c.loop-node.node-index c.loop-node.node-index c.node-item.result _ _ _ _ _ _
    c.loop-node-test.true c.node-item.is refl refl refl c.loop-node.invariant c.of.ensures c.in_ok-push.ensures.items

pub returns : goal.returns
returns c =
    let all = begun_all no_plan c.args.nodes.now c.loop-node.node-index _ c.loop-node-test.false
    c.loop-node.invariant in
    record { stories = all.stories; have = all.have }
