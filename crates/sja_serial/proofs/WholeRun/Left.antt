-- What was left on the links of the first nodes, gathered node by node.
use Rattle.std.proofs.Common.{◌≡◌, ℕ, ◌+◌, ◌<◌, ◌≤◌, List, [], ◌∷◌, ◌++◌, length, sym, ap, ◌∙◌, subst, arith, inl, inr}
use Rattle.std.specs.Prelude.{slice_index_or}
use Rattle.std.proofs.lemmas.Bool.{cases_eq}
use Rattle.std.proofs.lemmas.List.{get_or_append_left, get_or_push, length-append}
use Rattle.sja_link.specs.declared.older_down.OlderDown.{OlderDown}
use Rattle.sja_link.specs.Deques.{Deques, left_on, down_on}
use Rattle.sja_promises.specs.LeftDown.{left_of, IsLeft}

-- of so many nodes
pub record IsLeftOf (links : List Deques) (count : ℕ) (lists : List (List OlderDown)) : Type 0 where
  pub many : length lists ≡ count
  pub each : (node activation : ℕ) (d : Deques) → node < count →
      left_of lists node activation ≡ down_on (slice_index_or links node d) activation

-- and of one node more
pub left_push : (links : List Deques) (count : ℕ) (lists : List (List OlderDown)) (x : List OlderDown) →
    IsLeftOf links count lists →
    ((activation : ℕ) (d : Deques) → left_on x activation ≡ down_on (slice_index_or links count d) activation) →
    IsLeftOf links (count + 1) (lists ++ x ∷ [])
left_push links count lists x h here = record {
  many = let l = length-append lists (x ∷ []) in let m = h.many in omega (arith, l, m);
  each = λ node activation d less. elim (cases_eq count node) [
    | inl e ↦ ap (λ (l : List OlderDown). left_on l activation) (get_or_push lists x [] node (h.many ∙ e))
        ∙ here activation d ∙ ap (λ (k : ℕ). down_on (slice_index_or links k d) activation) e
    | inr differ ↦
        let m = h.many in
        ap (λ (l : List OlderDown). left_on l activation)
        (get_or_append_left lists (x ∷ []) [] node (omega (arith, less, differ, m)))
        ∙ h.each node activation d (omega (arith, less, differ))
  ];
}

-- of all
pub left_all : (links : List Deques) (count : ℕ) (lists : List (List OlderDown)) → IsLeftOf links count lists →
    count ≡ length links → IsLeft links lists
left_all links count lists h all = record {
  count = h.many ∙ all;
  each = λ node activation d less. h.each node activation d (omega (arith, less, all));
}
