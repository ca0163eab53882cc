use Rattle.std.proofs.Common.{rules}
use Rattle.text_picture.proofs.NodeRows.Fresh.{fresh_none, fresh_more, fresh_all}
use Rattle.text_picture.specs.Drawing.{IsFresh}
use Rattle.text_picture.proofs.all_rows.rows_of.Goals as goal

pub loop-node-init : goal.loop-node-init
loop-node-init c = fresh_none IsFresh c.args.nodes.now c.new-rows.result.items (search rules)

pub loop-node-preserved : goal.loop-node-preserved
loop-node-preserved c =
    fresh_more IsFresh _ _ _ _ _ c.loop-node-test.true c.new.ensures c.loop-node.invariant c.in_ok-push.ensures.items

pub returns : goal.returns
returns c = fresh_all IsFresh c.args.nodes.now c.loop-node._node-index _ c.loop-node-test.false c.loop-node.invariant
