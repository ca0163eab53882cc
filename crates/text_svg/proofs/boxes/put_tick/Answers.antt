use Rattle.std.proofs.Common.{append_assoc}
use Rattle.text_svg.proofs.boxes.put_tick.Goals as goal

pub returns : goal.returns
returns c = simp append_assoc c.writeln.ensures.bytes
