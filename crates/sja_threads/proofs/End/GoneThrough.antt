-- Two lists that are gone through side by side, and what came out at the bus's ends of links.
use Rattle.std.proofs.Common.{◌≡◌, [], ◌∷◌, ℕ, zero, suc, ◌+◌, ◌<◌, ◌≤◌, List, length, drop, refl, sym, ap, ◌∙◌}
use Rattle.std.proofs.Common.{subst, arith, inl, inr}
use Rattle.std.specs.Prelude.{slice_index_or}
use Rattle.std.proofs.lemmas.Bool.{cases_eq}
use Rattle.std.proofs.lemmas.List.{length-drop}
use Rattle.lemmas.specs.Related.{EachRelated}
use Rattle.sja_promises.proofs.NodeLog.Logging.{next_of}

-- where some items are left there is one
pub some_left : {A : Type 0} (left : List A) → (length left ≡ 0 → ⊥) → 1 ≤ length left
some_left [] some = absurd (some refl)
some_left (x ∷ left) some = omega arith

-- what related lists have at one place is related
pub related_at : {A B : Type 0} (R : A → B → Type 0) (xs : List A) (ys : List B) → EachRelated R xs ys → (i : ℕ) (x : A)
    (y : B) → i < length xs → R (slice_index_or xs i x) (slice_index_or ys i y)
related_at R [] ys p i x y less = absurd (omega (arith, less))
related_at R (u ∷ xs) [] p i x y less = absurd p
related_at R (u ∷ xs) (v ∷ ys) p zero x y less = p.0
related_at R (u ∷ xs) (v ∷ ys) p (suc i) x y less = related_at R xs ys p.1 i x y (omega (arith, less))

module _ {A B : Type 0} where
  -- what holds of two elements holds of those at a place that is gone through next
  pub next_both : (P : A → B → Type 0) (xs : List A) (ys : List B) (n : ℕ) (xs_left : List A) (ys_left : List B)
      (x : A) (y : B) → drop n xs ≡ x ∷ xs_left → drop n ys ≡ y ∷ ys_left → P x y → (a : A) (b : B) →
      P (slice_index_or xs n a) (slice_index_or ys n b)
  next_both P xs ys n xs_left ys_left x y is_x is_y so a b =
      subst (λ (z : A). P z (slice_index_or ys n b)) (sym (next_of xs xs_left n x a is_x).0)
      (subst (λ (z : B). P x z) (sym (next_of ys ys_left n y b is_y).0) so)

  -- and the other way round
  pub both_next : (P : A → B → Type 0) (xs : List A) (ys : List B) (n : ℕ) (xs_left : List A) (ys_left : List B)
      (x : A) (y : B) → drop n xs ≡ x ∷ xs_left → drop n ys ≡ y ∷ ys_left →
      ((i : ℕ) (a : A) (b : B) → i < length xs → P (slice_index_or xs i a) (slice_index_or ys i b)) → P x y
  both_next P xs ys n xs_left ys_left x y is_x is_y all =
      let first = next_of xs xs_left n x x is_x in
      subst (λ (z : A). P z y) first.0
      (subst (λ (z : B). P (slice_index_or xs n x) z) (next_of ys ys_left n y y is_y).0 (all n x y first.2))

-- all of them are gone through
pub all_gone : {A : Type 0} (xs xs_left : List A) (n : ℕ) → xs_left ≡ drop n xs → xs_left ≡ [] → length xs ≤ n
all_gone {A} xs xs_left n is none =
    let rest : length (drop n xs) ≡ 0 = ap (λ (l : List A). length l) (sym is ∙ none) in
    omega (arith, length-drop n xs, rest)

-- where one of two lists of one length has a next element the other has one too
pub none_beside : {A B : Type 0} (xs : List A) (ys : List B) (n : ℕ) (xs_left : List A) (x : A) →
    length ys ≡ length xs → drop n xs ≡ x ∷ xs_left → drop n ys ≡ [] → ⊥
none_beside xs ys n xs_left x long is_x none =
    let less = (next_of xs xs_left n x x is_x).2 in
    let most = all_gone ys [] n (sym none) refl in omega (arith, less, most, long)

-- this holds of the first so many of both, and these are left
pub record AreGone {A B : Type 0} (P : A → B → Type 0) (xs : List A) (ys : List B) (xs_left : List A)
    (ys_left : List B) : Type 0 where
  pub many : ℕ
  pub first_left : xs_left ≡ drop many xs
  pub second_left : ys_left ≡ drop many ys
  pub so : (i : ℕ) (x : A) (y : B) → i < many → P (slice_index_or xs i x) (slice_index_or ys i y)

module _ {A B : Type 0} (P : A → B → Type 0) (xs : List A) (ys : List B) where
  pub none_yet : (xs_left : List A) (ys_left : List B) → xs_left ≡ xs → ys_left ≡ ys → AreGone P xs ys xs_left ys_left
  none_yet xs_left ys_left all_first all_second = record {
    many = 0;
    first_left = all_first;
    second_left = all_second;
    so = λ i x y less. absurd (omega (arith, less));
  }

  pub one_more : (xs_left : List A) (ys_left : List B) (x : A) (y : B) →
      AreGone P xs ys (x ∷ xs_left) (y ∷ ys_left) → P x y → AreGone P xs ys xs_left ys_left
  one_more xs_left ys_left x y h here = record {
    many = h.many + 1;
    first_left = sym (next_of xs xs_left h.many x x (sym h.first_left)).1;
    second_left = sym (next_of ys ys_left h.many y y (sym h.second_left)).1;
    so = λ i a b below. elim (cases_eq h.many i) [
      | inl is ↦
          subst (λ (n : ℕ). P (slice_index_or xs n a) (slice_index_or ys n b)) is
          (next_both P xs ys h.many xs_left ys_left x y (sym h.first_left) (sym h.second_left) here a b)
      | inr other ↦ h.so i a b (omega (arith, below, other))
    ];
  }

  pub all_so : (xs_left : List A) (ys_left : List B) → AreGone P xs ys xs_left ys_left → xs_left ≡ [] → (i : ℕ) (x : A)
      (y : B) → i < length xs → P (slice_index_or xs i x) (slice_index_or ys i y)
  all_so xs_left ys_left h none i x y less =
      let most = all_gone xs xs_left h.many h.first_left none in h.so i x y (omega (arith, most, less))
