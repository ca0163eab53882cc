use Rattle.sja_replay.specs.ReplayProgress.{left_in}
use Rattle.text_trace.specs.Inside.Finishing.{IsFinishing}
use Rattle.text_trace.proofs.node_bits.NodeBits.finish.Given as goal

-- several bits more were told
abbrev pub invariant-loop-self : goal.invariant-loop-self
invariant-loop-self l = IsFinishing l.fn.self l.self

abbrev pub decreases-loop-self : goal.decreases-loop-self
decreases-loop-self l = left_in l.self.over l.self.replay
