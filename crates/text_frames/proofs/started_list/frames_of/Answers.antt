use Rattle.std.proofs.Common.{arith, refl, rules}
use Rattle.text_frames.proofs.FrameLines.Nodes.{some_none, some_more, some_all}
use Rattle.text_frames.proofs.started_list.frames_of.Goals as goal

pub loop-node-init : goal.loop-node-init
loop-node-init c = record { some = some_none c.args.nodes.now c.new-found.result.items (search rules); number = refl }

pub loop-node-preserved : goal.loop-node-preserved
loop-node-preserved c = record {
  some = some_more c.args.nodes.now c.loop-node.node-index c.loop-node.number _ c.node-item.result _ _
      c.loop-node-test.true c.node-item.is c.loop-node.invariant.some
      (rw c.journal.ensures at c.in_ok-put_frames.ensures) refl;
  number = let n = c.loop-node.invariant.number in omega (arith, n);
}

pub returns : goal.returns
returns c =
    some_all c.args.nodes.now c.loop-node.node-index c.loop-node.number _ c.loop-node-test.false
    c.loop-node.invariant.some
