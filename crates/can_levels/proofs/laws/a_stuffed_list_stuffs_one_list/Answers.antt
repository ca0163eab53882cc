use Rattle.can_levels.proofs.Stuffs.{Stuffed-unique}
use Rattle.can_levels.proofs.laws.a_stuffed_list_stuffs_one_list.Goals as goal

pub returns : goal.returns
returns c = Stuffed-unique
