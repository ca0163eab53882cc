use Rattle.text_picture.specs.Knowing.{Knows}
use Rattle.text_svg.specs.Inside.DrawingProgress.{IsDrawn}
use Rattle.text_svg.proofs.drawing_text.drawn.Given as goal

-- the bits so far were drawn
abbrev pub invariant-loop-bit : goal.invariant-loop-bit
invariant-loop-bit l = Knows l.log.nodes l.bit l.node_traces (IsDrawn l.span.first l.bit l.sheet l.lanes)
