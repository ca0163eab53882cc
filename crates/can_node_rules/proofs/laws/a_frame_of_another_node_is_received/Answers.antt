use Rattle.can_node_rules.proofs.Examples.ReceivedFrame.{cut_of_reception}
use Rattle.can_node_rules.proofs.laws.a_frame_of_another_node_is_received.Goals as goal

pub returns-clause-cut : goal.returns-clause-cut
returns-clause-cut c = cut_of_reception
