use Rattle.text_frames.proofs.FrameLines.Walks.{walk_first, walk_next, walk_last}
use Rattle.text_frames.proofs.FrameLines.Passing.{walk_on, both_shorter}
use Rattle.text_frames.proofs.walk.put_frames.Goals as goal

pub loop-bit-init : goal.loop-bit-init
loop-bit-init c =
    walk_on c.args.node c.args.journal.now.entries c.args.found.now.items c.args.found.now.items _ _ _
    c.of-replay.result _
    (walk_first c.args.node c.args.journal.now.entries c.args.found.now.items c.of-replay.result
    c.of-replay.ensures.at c.of-replay.ensures.left) c.in_ok-current.ensures

pub loop-bit-preserved : goal.loop-bit-preserved
loop-bit-preserved c =
    walk_on c.args.node c.args.journal.now.entries c.args.found.now.items c.go_on.new.found.items
    c.pass-in-Some.new.found.items c.in_ok-next.next c.in_ok-current-2.current c.next.new.self
    c.pass-in-Some.new.replay
    (walk_next c.args.node c.args.journal.now.entries c.args.found.now.items c.loop-bit.found.items
    c.go_on.new.found.items c.loop-bit.current c.in_ok-next.next c.loop-bit.replay c.next.new.self c.in-Some.bit
    c.loop-bit.invariant c.in-Some.ensures.some c.in_ok-next.ensures) c.in_ok-current-2.ensures

pub loop-bit-smaller : goal.loop-bit-smaller
loop-bit-smaller c =
    both_shorter c.args.node c.args.journal.now.entries c.args.found.now.items c.loop-bit.found.items
    c.go_on.new.found.items c.pass-in-Some.new.found.items c.loop-bit.current c.in_ok-next.next
    c.in_ok-current-2.current c.loop-bit.replay c.next.new.self c.pass-in-Some.new.replay c.in-Some.bit
    c.loop-bit.invariant c.in-Some.ensures.some c.in_ok-next.ensures c.in_ok-current-2.ensures

pub returns : goal.returns
returns c =
    walk_last c.args.node c.args.journal.now.entries c.args.found.now.items c.loop-bit.found.items
    c.close.new.found.items c.loop-bit.current c.loop-bit.replay c.loop-bit.invariant c.in_default.ensures.none
    c.in_ok-close.ensures
