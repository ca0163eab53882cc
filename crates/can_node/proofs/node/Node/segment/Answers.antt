use Rattle.can_node.specs.declared.stage.Stage.TheVariants.{InFrame as StageInFrame, LastEofBit as StageLastEofBit}
use Rattle.can_node_rules.specs.NextBit.{now_in, open_bits}
use Rattle.can_node.proofs.Machine.Ats.{at_is}
use Rattle.can_node.proofs.Machine.Segments.{frame_segment, last_segment, no_segment}
use Rattle.can_node.proofs.node.Node.segment.Goals as goal

-- src/next_field.rt
pub returns-in-InFrame : goal.returns-in-InFrame
returns-in-InFrame c = λ entries found h.
    let node = c.args.self.now in
    frame_segment node.shift h.cut.context (now_in h.cut) h.cut.place (open_bits h.cut) c.next_segment.result
    (at_is StageInFrame node.stage node.shift h.cut.context (now_in h.cut) h.cut.place (open_bits h.cut)
    c.in-InFrame.is h.at)
    c.next_segment.ensures

pub returns-in-LastEofBit : goal.returns-in-LastEofBit
returns-in-LastEofBit c = λ entries found h.
    let node = c.args.self.now in
    last_segment h.cut.place (open_bits h.cut)
    (at_is StageLastEofBit node.stage node.shift h.cut.context (now_in h.cut) h.cut.place (open_bits h.cut)
    c.in-LastEofBit.is h.at).0

pub returns-in_default : goal.returns-in_default
returns-in_default c = λ entries found h.
    let node = c.args.self.now in
    no_segment node.stage node.shift h.cut.context (now_in h.cut) h.cut.place (open_bits h.cut) h.at
    c.in_default.not-InFrame c.in_default.not-LastEofBit
