use Rattle.can_node_rules.proofs.OneCut.SameCuts.{drives_same}
use Rattle.sja_laws.proofs.levels.a_record_drives_one_level.Goals as goal

pub returns : goal.returns
returns c = drives_same
