use Rattle.std.proofs.Common.{append_assoc}
use Rattle.text_svg.proofs.signs.put_strike.Goals as goal

pub returns : goal.returns
returns c = simp append_assoc c.writeln.ensures.bytes
