use Rattle.std.proofs.Common.{append_assoc}
use Rattle.text_svg.proofs.boxes.put_box_front.Goals as goal

pub returns : goal.returns
returns c = simp append_assoc (rw (c.class-class.ensures, c.name-name.ensures) at c.write.ensures.bytes)
