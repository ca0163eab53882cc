use Rattle.std.proofs.Common.{length}
use Rattle.sja_replay.specs.Replaying.{left_of}
use Rattle.text_frames.proofs.FrameLines.Walks.{IsWalking}
use Rattle.text_frames.proofs.walk.put_frames.Given as goal

-- the bits so far were gone over
abbrev pub invariant-loop-bit : goal.invariant-loop-bit
invariant-loop-bit l = IsWalking l.node l.journal.entries l.fn.found.items l.found.items l.current l.replay

abbrev pub decreases-loop-bit : goal.decreases-loop-bit
decreases-loop-bit l = length (left_of l.replay)
