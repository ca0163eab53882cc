use Rattle.std.proofs.Common.{Option, Some, None, sym, subst}
use Rattle.text_frames.specs.declared.open_frame.OpenFrame.{OpenFrame}
use Rattle.text_frames.specs.Passing.{Walks}
use Rattle.text_frames.proofs.FrameLines.Passing.{walk_still, walk_both, walk_short, walk_silent}
use Rattle.text_frames.proofs.walk.pass.Goals as goal

pub loop-current-init : goal.loop-current-init
loop-current-init c = walk_still c.args.node c.args.found.now.items c.args.current c.args.replay.now

pub loop-current-preserved : goal.loop-current-preserved
loop-current-preserved c =
    let l = c.loop-current in
    let P : Option OpenFrame → Type 0 = λ o.
    Walks c.args.node l.found.items c.take.new.found.items o c.in_ok-current.current l.replay c.pass.new.self in
    walk_both c.args.node c.args.found.now.items l.found.items c.take.new.found.items c.args.current l.current
    c.in_ok-current.current c.args.replay.now l.replay c.pass.new.self l.invariant
    (subst P (sym c.in-Some.is)
    (walk_short c.args.node l.found.items c.take.new.found.items (Some c.in-Some.frame) c.in_ok-current.current
    l.replay c.pass.new.self c.in-Some-pass.bit c.bits-number.result c.bits-number.ensures
    c.in-Some-pass.ensures.passed c.in_ok-current.ensures))

pub returns : goal.returns
returns c =
    let l = c.loop-current in
    let P : Option OpenFrame → Type 0 = λ o.
    Walks c.args.node c.args.found.now.items l.found.items c.args.current o c.args.replay.now l.replay in
    walk_both c.args.node c.args.found.now.items l.found.items l.found.items c.args.current None None
    c.args.replay.now l.replay c.pass_silent.new.self (subst P c.in_default.is l.invariant)
    (walk_silent c.args.node l.found.items l.replay c.pass_silent.new.self c.pass_silent.ensures)
