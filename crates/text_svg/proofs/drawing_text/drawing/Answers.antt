use Rattle.text_picture.proofs.NodeRows.Fresh.{lent_fresh}
use Rattle.text_svg.specs.Inside.Drawing.{IsFresh}
use Rattle.text_svg.proofs.drawing_text.drawing.Goals as goal

pub drawn-requires : goal.drawn-requires
drawn-requires c =
    lent_fresh IsFresh _ _ _ _ c.nodes.ensures c.as_mut_slice.ensures.value c.in_ok-lanes.ensures
