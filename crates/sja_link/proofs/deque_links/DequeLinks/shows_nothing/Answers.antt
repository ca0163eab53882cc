use Rattle.std.proofs.Common.{◌≡◌, [], ◌-◌, ◌+◌, ◌<◌, ◌≤◌, length, sym, ap, ◌∙◌, subst, inl, inr, arith}
use Rattle.sja_link.specs.contracts.deque_links.DequeLinks.{the_view}
use Rattle.sja_link.specs.Deques.{Deques, Queues, up_on}
use Rattle.sja_link.proofs.QueuedLinks.Among.{among_at}
use Rattle.sja_link.proofs.QueuedLinks.Hand.{hand_else}
use Rattle.sja_link.proofs.QueuedLinks.Lying.{aside_nothing}
use Rattle.sja_link.proofs.deque_links.DequeLinks.shows_nothing.Goals as goal

pub returns-then-activation-self : goal.returns-then-activation-self
returns-then-activation-self c _ = subst (λ (s : Deques). up_on s c.args.activation ≡ []) c.self.view_is
    (ap (λ (q : Queues). q.up) (aside_nothing (the_view c.self.inside) c.args.activation
    (λ e. c.requires (sym (ap (λ (s : Deques). s.at) c.self.view_is) ∙ e)) (inl c.if-activation-self.true)))

pub returns-then-place-len : goal.returns-then-place-len
returns-then-place-len c _ =
    let from = c.if-activation-self.false in let more = c.if-place-len.true in let n = c.len.ensures in
    subst (λ (s : Deques). up_on s c.args.activation ≡ []) c.self.view_is
    (ap (λ (q : Queues). q.up) (aside_nothing (the_view c.self.inside) c.args.activation
    (λ e. c.requires (sym (ap (λ (s : Deques). s.at) c.self.view_is) ∙ e)) (inr (omega (arith, from, more, n)))))

pub returns : goal.returns
returns c taken =
    let from = c.if-activation-self.false in let more = c.if-place-len.false in let n = c.len.ensures in
    let s = the_view c.self.inside in
    subst (λ (x : Deques). up_on x c.args.activation ≡ []) c.self.view_is
    (ap (λ (q : Queues). q.up) (hand_else s c.args.activation
    (λ e. c.requires (sym (ap (λ (x : Deques). x.at) c.self.view_is) ∙ e))
    ∙ among_at s.others s.first (c.args.activation - s.first) c.args.activation c.index.result.now
    (omega (arith, from)) (omega (arith, more, n)) ∙ sym c.index.ensures) ∙ c.is_taken.ensures.yes taken)
