use Rattle.std.proofs.Common.{ap, ◌∙◌}
use Rattle.can_node_rules.specs.Context.{ContextValue, is_transmitter}
use Rattle.can_node.proofs.node.Node.is_transmitter.Goals as goal

-- src/next_field.rt
pub returns : goal.returns
returns c = λ entries found h. c.is_transmitter.ensures ∙ ap (λ (d : ContextValue). is_transmitter d.role) h.shows
