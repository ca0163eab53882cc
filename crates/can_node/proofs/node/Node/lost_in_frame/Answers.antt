use Rattle.std.proofs.Common.{◌≡◌, sym, arith, ◌∙◌}
use Rattle.can_node.specs.Standing.{context_of}
use Rattle.can_levels.proofs.Values.{recessive_by, dominant_by}
use Rattle.can_node.proofs.Machine.FrameDrives.{code_by}
use Rattle.can_node.proofs.node.Node.lost_in_frame.Goals as goal

-- src/arbitration.rt: `told` by `grind`, so that another place code is refused by values
pub returns-then-not-is_recessive : goal.returns-then-not-is_recessive
returns-then-not-is_recessive c =
    let told : _ ≡ c.place_code.result = grind arith in λ d place bits reading.
    told ∙ code_by c.args.self.now.shift d (context_of c.args.self.now.context) place bits c.args.driven c.args.seen
    c.in-Some.request c.ext.result c.place_code.result c.ext.ensures
    c.in-Transmitter.is reading c.in-Some.is
    (recessive_by c.args.driven (sym c.is_recessive.ensures ∙ c.if-is_recessive.true))
    (dominant_by c.args.seen (sym c.is_recessive-then-is_recessive.ensures ∙ c.if-not-is_recessive.true))
    c.place_code.ensures
