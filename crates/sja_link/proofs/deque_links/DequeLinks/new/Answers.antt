use Rattle.std.proofs.Common.{◌≡◌, ◌++◌, ◌∷◌, [], List, length, replicate, min, ap, ◌∙◌, inl, inr, rules, arith}
use Rattle.std.proofs.lemmas.Bool.{cases_lt}
use Rattle.std.proofs.lemmas.List.{length-replicate, replicate_more}
use Rattle.sja_link.specs.declared.older_down.OlderDown.{OlderDown}
use Rattle.sja_link.specs.Deques.{Deques, Queues, nothing_lies, among, left_on}
use Rattle.sja_link.proofs.QueuedLinks.Among.{among_new}
use Rattle.sja_link.proofs.deque_links.DequeLinks.new.Goals as goal

pub loop-init : goal.loop-init
loop-init c = record { items = search rules; room = search rules; many = omega arith }

pub push_back_reserved-requires : goal.push_back_reserved-requires
push_back_reserved-requires c =
    let inv = c.loop.invariant in let more = c.loop-test.true in
    let is = ap (λ (l : List Queues). length l) inv.items in let n = length-replicate c.loop.counter nothing_lies in
    let room = inv.room in omega (arith, is, n, more, room)

pub loop-preserved : goal.loop-preserved
loop-preserved c = record {
  items = c.push_back_reserved.ensures.items ∙ ap (λ l. l ++ c.in_ok-new.field-0 ∷ []) c.loop.invariant.items
      ∙ ap (λ (q : Queues). replicate c.loop.counter nothing_lies ++ q ∷ []) c.in_ok-new.ensures
      ∙ replicate_more c.loop.counter nothing_lies;
  room = search rules;
  many = let more = c.loop-test.true in omega (arith, more);
}

pub invariant_of-result : goal.invariant_of-result
invariant_of-result c =
    let inv = c.loop.invariant in let is = ap (λ (l : List Queues). length l) inv.items in
    let n = length-replicate c.loop.counter nothing_lies in let made = c.in_ok-older.ensures.whole in
    let none = ap (λ (l : List OlderDown). length l) c.in_ok-older.ensures.empty in let room = inv.room in
    let most = c.requires in let less = c.min-many.ensures in let done = c.loop-test.false in let all = inv.many in
    let hand = c.min.ensures in let long : length c.loop.others.items ≡ min c.args.starts 64 =
    omega (arith, is, n, less, done, all) in record {
      from = omega arith;
      many = long;
      memory_is = omega (arith, room, less);
      inside = omega (arith, long);
      most = most;
      hand = elim (cases_lt 0 c.args.starts) [
        | inl some ↦ inr (omega (arith, some, hand))
        | inr none_at_all ↦ inl (omega (arith, none_at_all, hand))
      ];
      there = λ some. (omega (arith, some, long, hand), omega (arith, some, long, hand));
      before = omega (arith, long, hand);
      place = ap (λ l. among 1 l c.min.result) inv.items ∙ among_new c.loop.counter 1 c.min.result;
      room_is = omega (arith, long, made, less);
      few = omega (arith, none);
      none_left = λ a from. ap (λ l. left_on l a) c.in_ok-older.ensures.empty;
    }

pub returns : goal.returns
returns c =
    let inv = c.loop.invariant in let less = c.min-many.ensures in let done = c.loop-test.false in let all = inv.many in
    let many : c.loop.counter ≡ min c.args.starts 64 = omega (arith, less, done, all) in
    ap (λ (l : List Queues). record {
      node = c.args.node;
      first = 1;
      at = c.min.result;
      here = c.in_ok-here.here;
      others = l;
      older = c.in_ok-older.older.items;
      starts = c.args.starts;
    })
    (inv.items ∙ ap (λ n. replicate n nothing_lies) many)
    ∙ ap (λ (o : List OlderDown). record {
      node = c.args.node;
      first = 1;
      at = c.min.result;
      here = c.in_ok-here.here;
      others = replicate (min c.args.starts 64) nothing_lies;
      older = o;
      starts = c.args.starts;
    })
    c.in_ok-older.ensures.empty
    ∙ ap (λ (q : Queues). record {
      node = c.args.node;
      first = 1;
      at = c.min.result;
      here = q;
      others = replicate (min c.args.starts 64) nothing_lies;
      older = [];
      starts = c.args.starts;
    })
    c.in_ok-here.ensures
    ∙ ap (λ n. record {
      node = c.args.node;
      first = 1;
      at = n;
      here = nothing_lies;
      others = replicate (min c.args.starts 64) nothing_lies;
      older = [];
      starts = c.args.starts;
    })
    c.min.ensures
