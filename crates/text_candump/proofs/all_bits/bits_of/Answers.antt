use Rattle.std.proofs.Common.{rules}
use Rattle.text_candump.proofs.SoFar.Stories.{begun_none, begun_more, begun_all}
use Rattle.text_candump.proofs.SoFar.UpTo.{up_first}
use Rattle.text_candump.proofs.all_bits.bits_of.Goals as goal

pub loop-node-init : goal.loop-node-init
loop-node-init c = begun_none c.args.nodes.now c.new-all.result.items (search rules)

pub loop-node-preserved : goal.loop-node-preserved
loop-node-preserved c =
    begun_more c.args.nodes.now c.loop-node.node-index c.node-item.result _ _ _ c.loop-node-test.true
    c.node-item.is c.loop-node.invariant c.of.ensures c.in_ok-push.ensures.items

pub returns : goal.returns
returns c =
    λ errors.
    up_first errors c.args.nodes.now _
    (begun_all c.args.nodes.now c.loop-node.node-index _ c.loop-node-test.false c.loop-node.invariant)
