use Rattle.std.proofs.Common.{ap}
use Rattle.can_node_rules.specs.Context.{ContextValue}
use Rattle.can_node.proofs.node.Node.flag.Goals as goal

-- src/next_field.rt
pub returns : goal.returns
returns c = λ entries found h. ap (λ (d : ContextValue). d.flag) h.shows
