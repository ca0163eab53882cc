use Rattle.std.proofs.Common.{rules, ◌≡◌, ◌∷◌, ◌++◌, ◌+◌, ℕ, List, [], map, take, drop, vec_len, sym, ap, ◌∙◌, subst}
use Rattle.std.specs.Vec.Iter.{into_iter_items}
use Rattle.std.proofs.lemmas.List.{map_more}
use Rattle.lemmas.specs.Related.{EachRelated}
use Rattle.sja_promises.proofs.NodeLog.Logging.{next_of}
use Rattle.sja_thread_promises.specs.Asking.{IsLet}
use Rattle.sja_threads.specs.Inside.Promised.{IsPromised}
use Rattle.lemmas.proofs.Related.{related_push}
use Rattle.sja_threads.proofs.joined_run.join_all.Goals as goal

-- one thread more was joined
kept_next : {A B C : Type 0} (R : B → C → Type 0) (f : A → B) (n m : ℕ) (xs rest : List A) (x : A) (ys all : List C)
    (y : C) → drop n xs ≡ x ∷ rest → all ≡ ys ++ y ∷ [] → m ≡ n + 1 → EachRelated R (map f (take n xs)) ys →
    R (f x) y → EachRelated R (map f (take m xs)) all
kept_next {A} {B} {C} R f n m xs rest x ys all y left grown next so new =
    let at = next_of xs rest n x x left in
    let here : map f (take m xs) ≡ map f (take n xs) ++ f x ∷ [] =
    ap (λ (k : ℕ). map f (take k xs)) next ∙ map_more f xs n x at.2
    ∙ ap (λ (z : A). map f (take n xs) ++ f z ∷ []) at.0 in
    subst (λ (l : List B). EachRelated R l all) (sym here)
    (subst (λ (l : List C). EachRelated R (map f (take n xs) ++ f x ∷ []) l) (sym grown)
    (related_push R (map f (take n xs)) ys (f x) y so new))

pub loop-child-preserved : goal.loop-child-preserved
loop-child-preserved g c =
    let inv = c.loop-child.invariant in
    let children = c.args.children.items in
    let n = vec_len c.loop-child.workeds in
    let child = c.in-Some.child in
    let left = into_iter_items c.next.new.self in
    let more = c.push_reserved.new.self in
    let is : drop n children ≡ child ∷ left = sym inv.rest ∙ c.in-Some.ensures.steps.0 in
    let next : vec_len more ≡ n + 1 = search rules in
    record {
      room = search rules;
      rest = sym (next_of children left n child child is).1 ∙ ap (λ (k : ℕ). drop k children) (sym next);
      kept = kept_next (IsPromised (IsLet g.G.Gate.QUITS g.G.Gate.answered)) (λ child. child.promise) n
          (vec_len more) children left child
          c.loop-child.workeds.items more.items c.join.result is c.push_reserved.ensures.items next inv.kept
          c.join.ensures;
    }
