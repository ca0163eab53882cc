use Rattle.can_levels.proofs.OneStuffing.{stuffing-unique}
use Rattle.can_levels.proofs.laws.a_list_has_one_stuffing.Goals as goal

pub returns : goal.returns
returns c = stuffing-unique
