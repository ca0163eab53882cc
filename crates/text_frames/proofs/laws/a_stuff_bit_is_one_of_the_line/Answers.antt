use Rattle.text_frames.proofs.Fields.Stuffs.{stuff_is_due}
use Rattle.text_frames.proofs.laws.a_stuff_bit_is_one_of_the_line.Goals as goal

pub returns : goal.returns
returns c = stuff_is_due
