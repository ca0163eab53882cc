use Rattle.std.proofs.Common.{◌≡◌, refl, ap, sym, ◌∙◌, subst, rules}
use Rattle.std.proofs.lemmas.Option.{IfSome_then}
use Rattle.sja_link.specs.contracts.deque_links.DequeLinks.{the_view}
use Rattle.sja_link.specs.Deques.{Deques, Queues, queues_on}
use Rattle.sja_link.proofs.QueuedLinks.Lying.{IsReady, ready_turned, ready_here, aside_nothing, lies_got}
use Rattle.sja_link.proofs.deque_links.DequeLinksDriverEnd.get.Goals as goal

-- the link is at hand as the call comes to it
ready : (c : goal.After-get) → IsReady c.args.self.now (the_view c.self-2.inside) c.args.activation
ready c = subst (λ m. IsReady c.args.self.now m c.args.activation) (sym c.self-2.view_is) (elim
    c.else-activation-self.branch [
      | goal.else-activation-self-via-then-activation-self+else-not-turn_to w ↦ subst
          (λ m. IsReady c.args.self.now m c.args.activation) (sym w.self-is)
          (ready_turned c.args.self.now w.turn_to.new.self c.args.activation
          (w.turn_to.ensures.turned (search rules)))
      | goal.else-activation-self-via-else-activation-self w ↦ subst
          (λ m. IsReady c.args.self.now m c.args.activation) (sym w.self-is)
          (subst (λ s. IsReady s s c.args.activation) c.self.view_is
          (ready_here (the_view c.self.inside) c.args.activation (search rules) c.self.invariant.hand
          c.self.invariant.before))
    ])

pub returns-then-not-turn_to-clause-dry : goal.returns-then-not-turn_to-clause-dry
returns-then-not-turn_to-clause-dry c =
    ap (λ (d : Deques). (queues_on d c.args.activation).down) (c.if-not-turn_to.ensures.kept refl)
    ∙ ap (λ (q : Queues). q.down) (aside_nothing c.args.self.now c.args.activation
    (λ e. c.if-activation-self.true (sym e ∙ sym (ap (λ (d : Deques). d.at) c.self.view_is)))
    (c.if-not-turn_to.ensures.aside refl))

pub returns-clause-item : goal.returns-clause-item
returns-clause-item c =
    IfSome_then c.get.result c.get.ensures.item
    (λ x is. lies_got c.args.self.now (the_view c.self-2.inside) c.args.activation c.get.new.self (ready c) x is
    c.get.ensures.up)
