use Rattle.std.proofs.Common.{rules}
use Rattle.text_wave.proofs.BitByBit.Going.{first_none, first_more, first_all}
use Rattle.text_wave.proofs.probes.probes_of.Goals as goal

pub loop-node-init : goal.loop-node-init
loop-node-init c = first_none c.args.nodes.now c.new-probes.result.items (search rules)

pub loop-node-preserved : goal.loop-node-preserved
loop-node-preserved c =
    first_more c.args.nodes.now c.loop-node.node-index c.node-item.result _ _ _ c.loop-node-test.true c.node-item.is
    c.loop-node.invariant c.first_of.ensures c.in_ok-push.ensures.items

pub returns : goal.returns
returns c =
    first_all c.args.nodes.now c.loop-node.node-index _ c.loop-node-test.false c.loop-node.invariant
