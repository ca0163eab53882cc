use Rattle.std.proofs.Common.{length}
use Rattle.sja_replay.specs.Replaying.{left_of}
use Rattle.sja_replay.specs.Silent.{PassesSilently}
use Rattle.sja_replay.proofs.replay.Replay.pass_silent.Given as goal

-- nothing is told of the bits so far
abbrev pub invariant-loop-self : goal.invariant-loop-self
invariant-loop-self l = PassesSilently l.fn.self l.self

abbrev pub decreases-loop-self : goal.decreases-loop-self
decreases-loop-self l = length (left_of l.self)
