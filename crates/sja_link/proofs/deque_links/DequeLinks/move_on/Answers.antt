use Rattle.std.proofs.Common.{◌≡◌, ℕ, suc, ◌+◌, ◌-◌, ◌<◌, ◌++◌, ◌∷◌}
use Rattle.std.proofs.Common.{[], List, length, drop, min, append-nil, length-append}
use Rattle.std.proofs.Common.{length-drop, refl, sym, ap, ◌∙◌, inl, inr, rules, arith}
use Rattle.std.specs.Prelude.{◌⊎◌, ◌≤◌, slice_index_or, slice_set}
use Rattle.std.proofs.lemmas.List.{length-set}
use Rattle.sja_link.specs.contracts.deque_links.DequeLinks.{the_view}
use Rattle.sja_journal.specs.declared.down.Down.{Down}
use Rattle.sja_link.specs.declared.older_down.OlderDown.{OlderDown}
use Rattle.sja_link.specs.Deques.{Deques, Queues, nothing_lies, among, on_link, left_on, queues_on, up_on}
use Rattle.sja_link.proofs.QueuedLinks.Among.{among_at}
use Rattle.sja_link.proofs.QueuedLinks.Left.{left_more}
use Rattle.sja_link.proofs.QueuedLinks.Hand.{moved_lies, moved_place, moved_none, first_back}
use Rattle.sja_link.proofs.deque_links.DequeLinks.move_on.Goals as goal

module _ (c : goal.After-self-3-1) where
  abbrev s : Deques
  s = the_view c.self.inside

  abbrev was : ℕ
  was = s.at - s.first

  abbrev moved : List Queues
  moved = c.push_back_reserved.new.self.items

  abbrev now : Deques
  now = record {
    node = c.loop-item.self-inside.node;
    first = c.loop-item.self-inside.first + 1;
    at = c.loop-item.self-inside.first + c.len.result;
    here = c.loop-item.self-inside.here;
    others = moved;
    older = c.loop-item.self-inside.older.items;
    starts = c.loop-item.self-inside.starts;
  }

  first : s.first ≡ c.args.self.now.first
  first = ap (λ (d : Deques). d.first) c.self.view_is

  older : s.older ≡ c.args.self.now.older
  older = ap (λ (d : Deques). d.older) c.self.view_is

  starts : s.starts ≡ c.args.self.now.starts
  starts = ap (λ (d : Deques). d.starts) c.self.view_is

  long : length s.others ≡ length c.args.self.now.others
  long = ap (λ (d : Deques). length d.others) c.self.view_is

  some : 0 < length s.others
  some = let p = c.requires.some in omega (arith, p, long)

  at : s.at ≡ s.first + was
  at = let h = (c.self.invariant.there some).0 in omega (arith, h)

  there : was < length s.others
  there = let h = c.self.invariant.there some in let l = h.1 in omega (arith, l, at)

  -- the rest of the links behind the first, and that one, on which nothing lies
  others : moved ≡ drop 1 (slice_set s.others was s.here) ++ c.get.new.self ∷ []
  others =
      c.push_back_reserved.ensures.items
      ∙ ap (λ v. v.items ++ c.get.new.self ∷ []) c.loop-item.invariant.others
      ∙ ap (λ (l : List Queues). l ++ c.get.new.self ∷ []) c.pop_front.ensures.rest
      ∙ ap (λ y. drop 1 (slice_set s.others was y) ++ c.get.new.self ∷ []) c.swap.ensures.y_after

  link_is : c.in-Some.link ≡ queues_on s s.first
  link_is = first_back s was at there c.in-Some.link (c.in-Some.ensures.lookup
      ∙ ap (λ y. slice_index_or (slice_set s.others was y) 0 c.in-Some.link) c.swap.ensures.y_after)

  none_down : c.loop-item.link.down ≡ []
  none_down = c.in_default-get.ensures.none

  empty : c.get.new.self ≡ nothing_lies
  empty =
      c.in_default-get.ensures.kept
      ∙ ap (λ x. record { down = x; up = c.loop-item.link.up }) none_down
      ∙ ap (λ x. record { down = []; up = x }) (c.loop-item.invariant.up ∙ ap (λ (q : Queues). q.up) link_is
      ∙ ap (λ (d : Deques). up_on d d.first) c.self.view_is ∙ c.requires.taken)

  many : length moved ≡ length s.others
  many =
      let a = ap (λ (l : List Queues). length l) others in
      let b = length-append (drop 1 (slice_set s.others was s.here)) (c.get.new.self ∷ []) in
      let d = length-drop 1 (slice_set s.others was s.here) in let e = length-set s.others was s.here in
      omega (arith, a, b, d, e, some)

  at_now : c.loop-item.self-inside.first + c.len.result ≡ s.first + length s.others
  at_now = let n = c.len.ensures in let f = c.loop-item.invariant.first in omega (arith, n, f, first, many)

  here_now : c.loop-item.self-inside.here ≡ nothing_lies
  here_now =
      c.loop-item.invariant.here ∙ c.swap.ensures.x_after ∙ c.index_mut.ensures.value
      ∙ sym (among_at s.others s.first was s.at c.index_mut.result.now at there) ∙ c.self.invariant.place

  left : c.loop-item.self-inside.older.items
      ≡ c.args.self.now.older ++ on_link c.args.self.now.first c.in-Some.link.down
  left =
      sym (append-nil c.loop-item.self-inside.older.items)
      ∙ ap (λ (l : List Down). c.loop-item.self-inside.older.items ++ on_link c.args.self.now.first l) (sym none_down)
      ∙ c.loop-item.invariant.left

  not_first : (a : ℕ) → (a ≡ 0) ⊎ (now.first ≤ a) → c.args.self.now.first ≡ a → ⊥
  not_first a (inl none) e = let p = c.self.invariant.from in omega (arith, none, e, p, first)
  not_first a (inr from) e = let f = c.loop-item.invariant.first in omega (arith, from, e, f)

  not_before : (a : ℕ) → (a ≡ 0) ⊎ (now.first ≤ a) → (a ≡ 0) ⊎ (s.first ≤ a)
  not_before a (inl none) = inl none
  not_before a (inr from) = let f = c.loop-item.invariant.first in inr (omega (arith, from, f, first))

pub invariant_of-self-2 : goal.invariant_of-self-2
invariant_of-self-2 c =
    let inv = c.self.invariant in let loop = c.loop-item.invariant in let n = many c in let f = loop.first in
    let e = first c in let g = at_now c in let more = c.requires.there in let l = long c in let h = starts c in
    let k = loop.starts in let room = loop.room in let made = inv.room_is in let few = inv.few in let fits = loop.few in
    let o = ap (λ (x : List OlderDown). length x) (older c) in let p = some c in record {
      from = omega arith;
      many = n ∙ inv.many ∙ ap (λ m. min m 64) (h ∙ sym k);
      memory_is = search rules;
      inside = omega (arith, n, f, e, k, more, l);
      most = let most = inv.most in omega (arith, most, h, k);
      hand = inr (omega (arith, g, f, e, p));
      there = λ _. (omega (arith, g, f, e, p), omega (arith, g, f, e, n));
      before = omega (arith, g, f, e, n);
      place = ap (λ m. among (c.loop-item.self-inside.first + 1) (moved c) m) g
          ∙ ap (λ m. among m (moved c) ((s c).first + length (s c).others)) (omega (arith, f, e))
          ∙ ap (λ x. among (suc (s c).first) x ((s c).first + length (s c).others)) (others c)
          ∙ moved_place (s c) (was c) (at c) (there c) c.get.new.self (empty c);
      room_is = omega (arith, n, made, room, h, k);
      few = omega (arith, few, fits, o, f, e);
      none_left = λ a from. ap (λ x. left_on x a) (left c)
          ∙ left_more c.args.self.now.older c.args.self.now.first a c.in-Some.link.down (not_first c a from)
          (ap (λ x. left_on x a) (sym (older c)) ∙ inv.none_left a (not_before c a from));
    }

pub returns : goal.returns
returns c =
    let seen = c.self.view_is in let loop = c.loop-item.invariant in let f = loop.first in let e = first c in
    let g = at_now c in let l = long c in let n = many c in
    let is : (now c).first ≡ suc (s c).first = omega (arith, f, e) in record {
      at = g ∙ ap (λ (d : Deques). d.first + length d.others) seen;
      lies = λ b differ. moved_lies (s c) (was c) (at c) (there c) (now c) c.get.new.self (empty c) g is (here_now c)
          (others c) b (λ k. differ (k ∙ e)) ∙ ap (λ (d : Deques). queues_on d b) seen;
      none = ap (λ m. queues_on (now c) m) (sym e) ∙ moved_none (s c) (was c) (at c) (there c) (now c) g is;
      node = loop.node;
      first = is ∙ ap (λ m. suc m) e;
      many = n ∙ l;
      older = left c ∙ ap (λ (q : Queues). c.args.self.now.older ++ on_link c.args.self.now.first q.down)
          (link_is c ∙ ap (λ (d : Deques). queues_on d d.first) seen);
      starts = loop.starts;
    }
