use Rattle.can_node_rules.proofs.CutRecords.Fronts.{cut_front}
use Rattle.can_node_rules.proofs.laws.a_front_has_a_cut.Goals as goal

pub returns : goal.returns
returns c = cut_front
