use Rattle.std.proofs.Common.{ap}
use Rattle.sja_link.specs.Deques.{Queues}
use Rattle.sja_link.proofs.QueuedLinks.Lying.{aside_nothing}
use Rattle.sja_link.proofs.deque_links.DequeLinks.turn_to_given.Goals as goal

pub returns-clause-none : goal.returns-clause-none
returns-clause-none c turned = ap (λ (q : Queues). q.up) (aside_nothing c.args.self.now c.args.activation c.requires
    (c.turn_to.ensures.aside turned))
