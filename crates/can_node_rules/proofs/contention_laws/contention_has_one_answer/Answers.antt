use Rattle.can_node_rules.proofs.Contending.Winning.{one_contention}
use Rattle.can_node_rules.proofs.contention_laws.contention_has_one_answer.Goals as goal

pub returns : goal.returns
returns c = one_contention
