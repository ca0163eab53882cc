use Rattle.std.proofs.Common.{refl}
use Rattle.text_trace.proofs.Stories.Silent.{rest_passes}
use Rattle.text_trace.proofs.node_bits.NodeBits.rest.Goals as goal

pub returns : goal.returns
returns c =
    rest_passes c.args.self.now _ c.args.count c.rest.result c.requires.under refl c.rest.ensures.new
    c.rest.ensures.passes
