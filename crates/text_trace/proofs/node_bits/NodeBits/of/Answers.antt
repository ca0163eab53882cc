use Rattle.std.proofs.Common.{refl}
use Rattle.sja_replay.proofs.Listed.Coming.{came_first}
use Rattle.text_trace.proofs.node_bits.NodeBits.of.Goals as goal

pub returns : goal.returns
returns c = ((came_first _ _ c.of.ensures.at c.of.ensures.left, refl), refl)
