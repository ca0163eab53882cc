use Rattle.can_node_rules.proofs.Contending.Winning.{some_goes_on}
use Rattle.can_node_rules.proofs.contention_laws.some_frame_goes_on.Goals as goal

pub returns : goal.returns
returns c = some_goes_on
