use Rattle.std.proofs.Common.{sym, ◌∙◌, []}
use Rattle.can_node.specs.Standing.{context_of}
use Rattle.can_node.proofs.Machine.IdleTurns.{idle_begins, idle_still}
use Rattle.can_node.proofs.node.Node.after_other_idle_bit.Goals as goal

-- src/bit.rt
pub returns-then-is_recessive-clause-turn : goal.returns-then-is_recessive-clause-turn
returns-then-is_recessive-clause-turn c = λ none receiver stands.
    idle_still (context_of c.args.self.now.context) c.args.seen none
    (sym c.is_recessive.ensures ∙ c.if-is_recessive.true)

pub returns-else-is_recessive-clause-turn : goal.returns-else-is_recessive-clause-turn
returns-else-is_recessive-clause-turn c = λ none receiver stands.
    idle_begins c.advance.new.self (context_of c.args.self.now.context) c.args.seen none receiver
    (sym c.is_recessive.ensures ∙ c.if-is_recessive.false) (c.advance.ensures.stands [] stands)
