use Rattle.can_levels.proofs.LineLaws.{can_go_on}
use Rattle.can_levels.proofs.laws.a_good_beginning_can_go_on.Goals as goal

pub returns : goal.returns
returns c = can_go_on
