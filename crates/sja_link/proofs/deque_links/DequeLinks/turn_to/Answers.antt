use Rattle.std.proofs.Common.{◌≡◌, ℕ, ◌+◌, ◌-◌, ◌<◌, List, length, refl, sym, ap, ◌∙◌, inr, arith}
use Rattle.std.specs.Prelude.{slice_index_or, slice_set}
use Rattle.std.proofs.lemmas.List.{length-set}
use Rattle.sja_link.specs.contracts.deque_links.DequeLinks.{the_view}
use Rattle.sja_link.specs.Deques.{Deques, Queues, nothing_lies, queues_on, among}
use Rattle.sja_link.proofs.QueuedLinks.Among.{among_at}
use Rattle.sja_link.proofs.QueuedLinks.Hand.{turned_lies, turned_place}
use Rattle.sja_link.proofs.deque_links.DequeLinks.turn_to.Goals as goal

module _ (c : goal.After-self-3-1) where
  abbrev s : Deques
  s = the_view c.self.inside

  abbrev was : ℕ
  was = s.at - s.first

  abbrev place : ℕ
  place = c.args.activation - s.first

  less : place < length s.others
  less = let more = c.if-place-len.false in let n = c.len.ensures in omega (arith, more, n)

  is : c.args.activation ≡ s.first + place
  is = let from = c.if-activation-self.false in omega (arith, from)

  at : s.at ≡ s.first + was
  at = let h = (c.self.invariant.there (omega (arith, less))).0 in omega (arith, h)

  there : was < length s.others
  there = let h = c.self.invariant.there (omega (arith, less)) in let l = h.1 in omega (arith, l, at)

  abbrev now : Deques
  now = record s {
    at = c.args.activation;
    here = c.swap-2.new.x;
    others = slice_set (slice_set s.others was c.swap.new.y) place c.swap-2.new.y;
  }

  none : c.swap-2.new.y ≡ nothing_lies
  none =
      c.swap-2.ensures.y_after ∙ c.swap.ensures.x_after ∙ c.index_mut.ensures.value
      ∙ sym (among_at s.others s.first was s.at c.index_mut.result.now at there) ∙ c.self.invariant.place

  here : c.swap-2.new.x ≡ slice_index_or (slice_set s.others was s.here) place c.swap-2.new.x
  here =
      c.swap-2.ensures.x_after ∙ c.index_mut-2.ensures.value
      ∙ ap (λ d. slice_index_or (slice_set s.others was c.swap.new.y) place d) (sym c.swap-2.ensures.x_after)
      ∙ ap (λ y. slice_index_or (slice_set s.others was y) place c.swap-2.new.x) c.swap.ensures.y_after

  others : slice_set (slice_set s.others was c.swap.new.y) place c.swap-2.new.y
      ≡ slice_set (slice_set s.others was s.here) place c.swap-2.new.y
  others = ap (λ y. slice_set (slice_set s.others was y) place c.swap-2.new.y) c.swap.ensures.y_after

  many : length (slice_set (slice_set s.others was c.swap.new.y) place c.swap-2.new.y) ≡ length s.others
  many = length-set (slice_set s.others was c.swap.new.y) place c.swap-2.new.y
      ∙ length-set s.others was c.swap.new.y

pub invariant_of-self : goal.invariant_of-self
invariant_of-self c =
    let inv = c.self.invariant in let n = many c in let l = less c in let e = is c in
    let long = inv.many in let inside = inv.inside in let room = inv.room_is in record {
      from = inv.from;
      many = n ∙ long;
      memory_is = inv.memory_is;
      inside = omega (arith, n, inside);
      most = inv.most;
      hand = inr (omega (arith, e));
      there = λ some. (omega (arith, e), omega (arith, e, l, n));
      before = omega (arith, e, l, n);
      place = ap (λ o. among (s c).first o c.args.activation) (others c)
          ∙ turned_place (s c) (was c) (at c) (there c) (place c) c.args.activation c.swap-2.new.y e l (none c);
      room_is = omega (arith, n, room);
      few = inv.few;
      none_left = inv.none_left;
    }

pub returns-clause-turned : goal.returns-clause-turned
returns-clause-turned c = λ _.
    let seen = c.self.view_is in let n = many c in let l = less c in let e = is c in
    let first = ap (λ (d : Deques). d.first) seen in let long = ap (λ (d : Deques). length d.others) seen in record {
      at = refl;
      lies = λ b. turned_lies (s c) (was c) (at c) (there c) (now c) (place c) c.args.activation c.swap-2.new.y e l refl
          refl (here c) (others c) b ∙ ap (λ (d : Deques). queues_on d b) seen;
      node = ap (λ (d : Deques). d.node) seen;
      first = first;
      many = n ∙ long;
      older = ap (λ (d : Deques). d.older) seen;
      starts = ap (λ (d : Deques). d.starts) seen;
      from = omega (arith, e, first);
      before = omega (arith, e, l, first, long);
    }
