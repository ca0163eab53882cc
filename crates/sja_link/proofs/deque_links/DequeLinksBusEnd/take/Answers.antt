use Rattle.std.proofs.Common.{◌≡◌, refl, ap, sym, ◌∙◌, subst, rules}
use Rattle.std.proofs.lemmas.Option.{IfSome_then}
use Rattle.sja_link.specs.contracts.deque_links.DequeLinks.{the_view}
use Rattle.sja_link.specs.Deques.{Deques, queues_on}
use Rattle.sja_link.proofs.QueuedLinks.Lying.{IsReady, ready_turned, ready_here, lies_taken}
use Rattle.sja_link.proofs.deque_links.DequeLinksBusEnd.take.Goals as goal

-- the link is at hand as the call comes to it
ready : (c : goal.After-take) → IsReady c.args.self.now (the_view c.self-2.inside) c.args.activation
ready c = subst (λ m. IsReady c.args.self.now m c.args.activation) (sym c.self-2.view_is) (elim
    c.else-activation-self.branch [
      | goal.else-activation-self-via-then-activation-self+else-not-turn_to_given w ↦ subst
          (λ m. IsReady c.args.self.now m c.args.activation) (sym w.self-is)
          (ready_turned c.args.self.now w.turn_to_given.new.self c.args.activation
          (w.turn_to_given.ensures.turned (search rules)))
      | goal.else-activation-self-via-else-activation-self w ↦ subst
          (λ m. IsReady c.args.self.now m c.args.activation) (sym w.self-is)
          (subst (λ s. IsReady s s c.args.activation) c.self.view_is
          (ready_here (the_view c.self.inside) c.args.activation (search rules) c.self.invariant.hand
          c.self.invariant.before))
    ])

pub returns-then-not-turn_to_given-clause-dry : goal.returns-then-not-turn_to_given-clause-dry
returns-then-not-turn_to_given-clause-dry c =
    ap (λ (d : Deques). (queues_on d c.args.activation).up) (c.if-not-turn_to_given.ensures.kept refl)
    ∙ c.if-not-turn_to_given.ensures.none refl

pub returns-clause-item : goal.returns-clause-item
returns-clause-item c =
    IfSome_then c.take.result c.take.ensures.item
    (λ x is. lies_taken c.args.self.now (the_view c.self-2.inside) c.args.activation c.take.new.self (ready c) x is
    c.take.ensures.down)
