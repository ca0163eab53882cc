use Rattle.std.proofs.Common.{sym, ap, ◌∙◌}
use Rattle.can_node_rules.specs.Effects.{own_step}
use Rattle.can_node.specs.Standing.{context_of}
use Rattle.can_node.specs.Inside.Turns.{piece_of}
use Rattle.can_node.proofs.context.Context.end_step.Goals as goal

-- src/fault_confinement.rt
pub returns-in-Sent : goal.returns-in-Sent
returns-in-Sent c = λ few.
    c.transmitted.ensures c.in-Sent.field-0
    ∙ ap (λ e. own_step (piece_of e) (context_of c.args.self.now)) (sym c.in-Sent.is)
