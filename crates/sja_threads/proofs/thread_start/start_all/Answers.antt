use Rattle.std.proofs.Common.{rules, ◌≡◌, ◌∷◌, ◌++◌, ◌+◌, ℕ, List, [], map, take, drop, sym, ap, ◌∙◌, subst, arith}
use Rattle.std.specs.Vec.Iter.{into_iter_items}
use Rattle.std.proofs.lemmas.List.{map_push, take_more}
use Rattle.lemmas.specs.Related.{EachRelated}
use Rattle.sja_promises.proofs.NodeLog.Logging.{next_of}
use Rattle.std.specs.Prelude.{All}
use Rattle.sja_threads.specs.Inside.Promised.{IsFor}
use Rattle.sja_threads.specs.Inside.Started.{IsThreadStart, AreOrdered}
use Rattle.lemmas.proofs.Related.{related_push}
use Rattle.sja_threads.proofs.Start.Threads.{order_rest, starts_rest}
use Rattle.sja_threads.proofs.thread_start.start_all.Goals as goal

-- one thread more was started
started_next : {A B C : Type 0} (R : A → B → Type 0) (f : C → B) (n : ℕ) (xs rest : List A) (x : A) (ys all : List C)
    (y : C) → drop n xs ≡ x ∷ rest → all ≡ ys ++ y ∷ [] → EachRelated R (take n xs) (map f ys) → R x (f y) →
    EachRelated R (take (n + 1) xs) (map f all)
started_next {A} {B} R f n xs rest x ys all y left grown so new =
    let next = next_of xs rest n x x left in
    let here : take (n + 1) xs ≡ take n xs ++ x ∷ [] =
    take_more xs n x next.2 ∙ ap (λ (z : A). take n xs ++ z ∷ []) next.0 in
    let there : map f all ≡ map f ys ++ f y ∷ [] = ap (λ l. map f l) grown ∙ map_push f ys y in
    subst (λ (l : List A). EachRelated R l (map f all)) (sym here)
    (subst (λ (l : List B). EachRelated R (take n xs ++ x ∷ []) l) (sym there)
    (related_push R (take n xs) (map f ys) x (f y) so new))

pub loop-start-preserved : goal.loop-start-preserved
loop-start-preserved g c =
    let inv = c.loop-start.invariant in
    let starts = c.args.starts.items in
    let n = c.loop-start.next in
    let start = c.in-Some.start in
    let left = into_iter_items c.next.new.self in
    let is : drop n starts ≡ start ∷ left = sym inv.rest ∙ c.in-Some.ensures.steps.0 in
    record {
      at = search rules;
      count = search rules;
      room = search rules;
      rest = sym (next_of starts left n start start is).1;
      starts = starts_rest c.args.plan.now (into_iter_items c.loop-start.start-iterator) left start
          c.in-Some.ensures.steps.0 inv.starts;
      order = order_rest g.N.Order.version g.N.Order.acts c.args.plan.now.version
          (into_iter_items c.loop-start.start-iterator) left start c.in-Some.ensures.steps.0 inv.order;
      started = started_next (IsFor c.args.plan.now) (λ child. child.promise) n starts left start
          c.loop-start.children.items c.push_reserved.new.self.items c.in_ok-child.child is
          c.push_reserved.ensures.items inv.started c.in_ok-child.ensures.child;
    }

pub loop-start-init : goal.loop-start-init
loop-start-init g c =
    let starts = c.args.starts.items in
    let rest : into_iter_items c.into_iter-start-iterator.result ≡ starts = search rules in record {
      at = search rules;
      count = search rules;
      room = search rules;
      rest = rest;
      starts = subst (λ l. All (IsThreadStart c.args.plan.now) l) (sym rest) c.requires.starts;
      order = subst (λ l. AreOrdered g.N.Order.version g.N.Order.acts c.args.plan.now.version l) (sym rest)
          c.requires.order;
      started = subst (λ l. EachRelated (IsFor c.args.plan.now) [] (map (λ child. child.promise) l))
          (sym c.requires.none) tt;
    }

pub start_one-requires-clause-start : goal.start_one-requires-clause-start
start_one-requires-clause-start g c κs within =
    let those = subst (λ l. All (IsThreadStart c.args.plan.now) l) c.in-Some.ensures.steps.0
    c.loop-start.invariant.starts in those 0 c.in-Some.start (omega arith)

pub start_one-requires-clause-order : goal.start_one-requires-clause-order
start_one-requires-clause-order g c κs within =
    let those = subst (λ l. AreOrdered g.N.Order.version g.N.Order.acts c.args.plan.now.version l)
    c.in-Some.ensures.steps.0 c.loop-start.invariant.order in those 0 c.in-Some.start (omega arith)
