use Rattle.std.proofs.Common.{ap, sym, Some, ◌∙◌}
use Rattle.can_node_rules.specs.Context.{ContextValue}
use Rattle.can_node.proofs.node.Node.held.Goals as goal

-- src/next_field.rt
pub returns-in-Some : goal.returns-in-Some
returns-in-Some c = λ entries found h.
    ap Some c.copy.ensures ∙ sym c.in-Some.is ∙ ap (λ (d : ContextValue). d.held) h.shows

pub returns-in-None : goal.returns-in-None
returns-in-None c = λ entries found h. sym c.in-None.is ∙ ap (λ (d : ContextValue). d.held) h.shows
