use Rattle.can_node_rules.proofs.Waiting.ElevenSteps.{takes}
use Rattle.can_node_rules.proofs.laws.each_eleven_takes_one.Goals as goal

pub returns : goal.returns
returns c = takes
