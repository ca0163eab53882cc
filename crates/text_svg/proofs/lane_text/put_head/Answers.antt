use Rattle.std.proofs.Common.{append_assoc}
use Rattle.text_svg.proofs.lane_text.put_head.Goals as goal

pub returns : goal.returns
returns c = simp append_assoc (rw c.node_top-top.ensures at c.writeln.ensures.bytes)
