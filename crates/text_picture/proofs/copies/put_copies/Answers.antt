use Rattle.std.proofs.Common.{sym, append-nil, arith}
use Rattle.text_picture.proofs.NodeRows.Copies.{copies_less, copies_all}
use Rattle.text_picture.proofs.copies.put_copies.Goals as goal

pub loop-left-preserved : goal.loop-left-preserved
loop-left-preserved c =
    copies_less _ _ c.args.twenty.now _ c.args.one.now 20 c.loop-left.left _ c.in_ok-push_str.ensures.bytes c.requires
    (omega (arith, c.loop-left-test.true)) c.loop-left.invariant

pub loop-left-2-preserved : goal.loop-left-2-preserved
loop-left-2-preserved c =
    copies_less _ _ c.args.one.now _ c.args.one.now 1 c.loop-left-2.left _ c.in_ok-push_str-2.ensures.bytes
    (sym (append-nil c.args.one.now)) (omega (arith, c.loop-left-2-test.true)) c.loop-left-2.invariant

pub returns : goal.returns
returns c =
    copies_all _ _ c.args.one.now c.loop-left-2.left (omega (arith, c.loop-left-2-test.false)) c.loop-left-2.invariant
