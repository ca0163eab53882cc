use Rattle.text_picture.proofs.NodeRows.Fresh.{lent_fresh}
use Rattle.text_picture.specs.Drawing.{IsFresh}
use Rattle.text_picture.proofs.picture_text.picture.Goals as goal

pub drawn-requires : goal.drawn-requires
drawn-requires c =
    lent_fresh IsFresh _ _ _ _ c.nodes.ensures c.as_mut_slice.ensures.value c.in_ok-rows.ensures
