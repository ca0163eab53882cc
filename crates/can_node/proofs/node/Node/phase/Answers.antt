use Rattle.std.proofs.Common.{◌∙◌}
use Rattle.can_node.proofs.Machine.Shown.{phase_shown}
use Rattle.can_node.proofs.node.Node.phase.Goals as goal

-- src/node.rt
pub returns-clause-phase : goal.returns-clause-phase
returns-clause-phase c = λ entries found h. c.phase.ensures ∙ phase_shown c.args.self.now entries found h
