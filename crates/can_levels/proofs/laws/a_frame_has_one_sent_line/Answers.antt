use Rattle.can_levels.proofs.OneStuffing.{sent_line_once}
use Rattle.can_levels.proofs.laws.a_frame_has_one_sent_line.Goals as goal

pub returns : goal.returns
returns c = sent_line_once
