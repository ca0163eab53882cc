use Rattle.std.proofs.Common.{refl, ap, ◌∙◌, None, if◌then◌else◌}
use Rattle.can_node.specs.Standing.{context_of}
use Rattle.can_node.proofs.Machine.IdleTurns.{idle_sends}
use Rattle.can_node.proofs.node.Node.after_idle_bit.Goals as goal

-- src/bit.rt
pub returns-in-Some-clause-turn : goal.returns-in-Some-clause-turn
returns-in-Some-clause-turn c = λ receiver body drives.
    let now = context_of c.args.self.now.context in
    idle_sends c.new-self.result c.transmit.new.shift now c.in-Some.request c.args.self.now.next c.args.seen
    c.args.self.now.context.self_test c.transmit.result
    (ap (λ t. if t then None else c.args.self.now.context.held) c.if-not-self.true ∙ c.in-Some.is)
    (λ request e. (body request e).0) refl c.new-self.ensures drives c.transmit.ensures.stands
    c.transmit.ensures.turn
