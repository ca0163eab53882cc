use Rattle.std.proofs.Common.{append_assoc}
use Rattle.text_svg.proofs.sheet_text.put_size.Goals as goal

pub returns : goal.returns
returns c =
    simp append_assoc (rw (c.whole_width-width.ensures, c.whole_height-height.ensures) at c.writeln.ensures.bytes)
