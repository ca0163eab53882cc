use Rattle.can_levels.proofs.LineLaws.{lines_agree}
use Rattle.can_levels.proofs.laws.lines_with_the_same_levels_are_of_one_frame.Goals as goal

pub returns : goal.returns
returns c = lines_agree
