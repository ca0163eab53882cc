use Rattle.can_node_rules.proofs.Driven.Records.{a_bit_is_driven}
use Rattle.can_node_rules.proofs.laws.a_bit_is_driven_as_the_cut_says.Goals as goal

pub returns : goal.returns
returns c = a_bit_is_driven
