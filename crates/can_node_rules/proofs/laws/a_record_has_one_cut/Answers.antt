use Rattle.can_node_rules.proofs.OneCut.CutOnce.{whole_once}
use Rattle.can_node_rules.proofs.laws.a_record_has_one_cut.Goals as goal

pub returns : goal.returns
returns c = whole_once
