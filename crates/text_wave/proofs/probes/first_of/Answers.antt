use Rattle.text_wave.proofs.BitByBit.Going.{begins}
use Rattle.text_wave.proofs.probes.first_of.Goals as goal

pub returns : goal.returns
returns c = begins c.args.node.now _ _ c.of-probe.ensures c.advance.ensures
