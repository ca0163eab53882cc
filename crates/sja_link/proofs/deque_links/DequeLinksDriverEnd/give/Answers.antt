use Rattle.std.proofs.Common.{◌≡◌, ℕ, ◌+◌, ◌<◌, ◌≤◌, length, [], refl, ap, sym, ◌∙◌, subst, inl, inr, rules, arith}
use Rattle.std.specs.Prelude.{◌≢◌, ◌⊎◌}
use Rattle.std.proofs.lemmas.Result.{on_ok_weaker}
use Rattle.sja_link.specs.contracts.deque_links.DequeLinks.{the_view}
use Rattle.sja_link.specs.Deques.{Deques, up_on}
use Rattle.sja_link.specs.Inside.Queues.{IsMoved}
use Rattle.sja_link.proofs.QueuedLinks.Lying.{IsReady, ready_turned, ready_here, aside_nothing}
use Rattle.sja_link.proofs.QueuedLinks.Lying.{others_still, lies_given}
use Rattle.sja_link.proofs.QueuedLinks.Moved.{others_begun, lies_begun, was_empty}
use Rattle.sja_link.proofs.deque_links.DequeLinksDriverEnd.give.Goals as goal

-- the next link has the queues of the first
record HasMoved (s m : Deques) (a : ℕ) : Type 0 where
  moved : IsMoved s m
  next : s.first + length s.others ≡ a
  there : a ≤ s.starts
  taken : up_on s s.first ≡ []
  some : 0 < length s.others
  else_at : s.at ≢ a

-- the link is at hand as the item comes to it, or it is the next one
came : (c : goal.After-give) → IsReady c.args.self.now (the_view c.self-2.inside) c.args.activation
    ⊎ HasMoved c.args.self.now (the_view c.self-2.inside) c.args.activation
came c =
    let s = c.args.self.now in let a = c.args.activation in
    subst (λ m. IsReady s m a ⊎ HasMoved s m a) (sym c.self-2.view_is) (elim c.if-activation-self.branch [
      | goal.then-activation-self+then-not-turn_to+else-not-is_next w ↦
          let same = w.if-not-turn_to.ensures.kept refl in
          let next = subst (λ (d : Deques). (d.first + length d.others ≡ a) × ((a ≤ d.starts) × (up_on d d.first ≡ [])))
          same (w.if-not-is_next.ensures.next refl) in
          let many = c.self.invariant.many in let from = c.self.invariant.from in let e = next.0 in let n = next.1.0 in
          let q = ap (λ (d : Deques). length d.others) c.self.view_is in
          let k = ap (λ (d : Deques). d.starts) c.self.view_is in let f = ap (λ (d : Deques). d.first) c.self.view_is in
          inr (subst (λ m. HasMoved s m a) (sym w.self-is) (record {
            moved = subst (λ d. IsMoved d w.move_on.new.self) same w.move_on.ensures;
            next = e;
            there = n;
            taken = next.1.1;
            some = omega (arith, many, from, e, n, q, k, f);
            else_at = λ g. w.if-activation-self.true (sym g ∙ sym (ap (λ (d : Deques). d.at) c.self.view_is));
          }))
      | goal.else-activation-self w ↦ elim w.else-activation-self.branch [
        | goal.else-activation-self-via-then-activation-self+else-not-turn_to v ↦
            inl (subst (λ m. IsReady s m a) (sym (w.self-is ∙ v.self-is))
            (ready_turned s v.turn_to.new.self a (v.turn_to.ensures.turned (search rules))))
        | goal.else-activation-self-via-else-activation-self v ↦
            inl (subst (λ m. IsReady s m a) (sym (w.self-is ∙ v.self-is)) (subst (λ d. IsReady d d a) c.self.view_is
            (ready_here (the_view c.self.inside) a (search rules) c.self.invariant.hand c.self.invariant.before)))
      ]
    ])

pub returns-clause-others : goal.returns-clause-others
returns-clause-others c =
    let s = c.args.self.now in let m = the_view c.self-2.inside in let a = c.args.activation in elim (came c) [
      | inl ready ↦ others_still s m a c.give.new.self ready
      | inr h ↦ others_begun s m a c.give.new.self h.moved h.next h.there h.taken h.some
    ]

pub returns-clause-given : goal.returns-clause-given
returns-clause-given c =
    let s = c.args.self.now in let m = the_view c.self-2.inside in let a = c.args.activation in
    on_ok_weaker c.give.result (elim (came c) [
      | inl ready ↦ lies_given s m a c.give.new.self ready c.args.item
      | inr h ↦
          let e = h.next in
          lies_begun s m a c.give.new.self h.moved h.next h.there h.taken h.some c.args.item
          (was_empty s m a c.give.new.self h.moved h.next h.there h.taken h.some
          ∙ aside_nothing s a h.else_at (inr (omega (arith, e))))
    ]) c.give.ensures.given
