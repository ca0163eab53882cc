use Rattle.can_levels.proofs.Checks.{Crc_exists}
use Rattle.can_levels.proofs.laws.a_list_has_one_check_sequence.Goals as goal

pub returns : goal.returns
returns c = Crc_exists
