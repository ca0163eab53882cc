use Rattle.can_levels.proofs.Ending.{same_part}
use Rattle.can_levels.proofs.laws.a_stuffed_part_says_where_it_ends.Goals as goal

pub returns : goal.returns
returns c f g b d e t s u x y h k w = same_part x y h k w
