use Rattle.std.proofs.Common.{length}
use Rattle.sja_replay.specs.Replaying.{left_of}
use Rattle.text_frames.specs.Passing.{Walks}
use Rattle.text_frames.proofs.walk.pass.Given as goal

-- the bits so far were gone over
abbrev pub invariant-loop-current : goal.invariant-loop-current
invariant-loop-current l =
    Walks l.node l.fn.found.items l.found.items l.fn.current l.current l.fn.replay l.replay

abbrev pub decreases-loop-current : goal.decreases-loop-current
decreases-loop-current l = length (left_of l.replay)
