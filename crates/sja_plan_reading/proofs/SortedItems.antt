-- A stable sort by first keys keeps those of each key, and what first keys pass.
use Rattle.std.proofs.Common.{◌≡◌, ℕ, ◌+◌, ◌<◌, ◌≤◌, Bool, true, not, ◌&&◌, List, [], ◌∷◌, ◌++◌}
use Rattle.std.proofs.Common.{take, length, Ordering, Less, Equal, Greater, nat_cmp}
use Rattle.std.proofs.Common.{refl, sym, ap, ◌∙◌, inl, inr, ◌⊎◌, arith, zero, suc}
use Rattle.std.proofs.Common.{◌-◌}
use Rattle.std.specs.Ordering.{is_lt, is_eq, ordering_reverse}
use Rattle.std.specs.Cmp.Lexicographic.{slice_cmp}
use Rattle.std.specs.List.{filter, slice_index_or}
use Rattle.std.specs.List.Sorted.{ties, IsStableBy}
use Rattle.std.proofs.lemmas.Bool.{cases_Bool}
use Rattle.std.proofs.lemmas.Cmp.{nat_list_cmp_total}
use Rattle.std.proofs.lemmas.List.{take_more, map-append}
use Rattle.toml.specs.Data.{same_key}
use Rattle.sja_plan_reading.specs.Words.{Text}
use Rattle.sja_plan_reading.specs.Inside.Items.{Item, first_of, at_first}
use Rattle.sja_plan_reading.specs.Inside.Definitions.{item_of, items_of, is_before, FirstsAre}
use Rattle.sja_plan_reading.specs.declared.tables.definition.Definition.{Definition}
use Rattle.sja_plan_reading.proofs.ByKey.{same_is}

-- one of two texts is before the other, or they are one
none_before : (r : Ordering) → not (is_lt r) && not (is_lt (ordering_reverse r)) ≡ is_eq r
none_before Less = refl
none_before Equal = refl
none_before Greater = refl

tie_is : (k l : Text) → not (is_lt (slice_cmp nat_cmp k l)) && not (is_lt (slice_cmp nat_cmp l k)) ≡ same_key k l
tie_is k l = rw (nat_list_cmp_total.antisymm l k) (none_before (slice_cmp nat_cmp k l))

-- those of a key, of definitions
module _ (ts : List Text) where
  at_first_is : (k : Text) (ds : List Definition) →
      at_first k (items_of ts ds) ≡ items_of ts (filter (λ d. same_key k (first_of (item_of ts d))) ds)
  at_first_is k [] = refl
  at_first_is k (d ∷ ds) =
      elim (cases_Bool (same_key k (first_of (item_of ts d)))) [
        | inl same ↦ rw (same, at_first_is k ds)
        | inr other ↦ rw (other, at_first_is k ds)
      ]

  ties_are : (x : Definition) (ds : List Definition) →
      filter (ties (is_before ts) x) ds ≡ filter (λ d. same_key (first_of (item_of ts x)) (first_of (item_of ts d))) ds
  ties_are x [] = refl
  ties_are x (d ∷ ds) = rw (tie_is (first_of (item_of ts x)) (first_of (item_of ts d)), ties_are x ds)

  -- either none is of a key, or one is
  found_or_none : (k : Text) (ds : List Definition) →
      (filter (λ d. same_key k (first_of (item_of ts d))) ds ≡ []) ⊎ ((d : Definition) ×
      (same_key k (first_of (item_of ts d)) ≡ true))
  found_or_none k [] = inl refl
  found_or_none k (d ∷ ds) =
      elim (cases_Bool (same_key k (first_of (item_of ts d)))) [
        | inl same ↦ inr (d, same)
        | inr other ↦ elim (found_or_none k ds) [
          | inl none ↦ inl (rw other none)
          | inr found ↦ inr found
        ]
      ]

  at_one : (k : Text) (x : Definition) (xs ys : List Definition) → IsStableBy (is_before ts) xs ys →
      same_key k (first_of (item_of ts x)) ≡ true →
      filter (λ d. same_key k (first_of (item_of ts d))) ys ≡ filter (λ d. same_key k (first_of (item_of ts d))) xs
  at_one k x xs ys stable same =
      rw (same_is k (first_of (item_of ts x)) same) (sym (ties_are x ys) ∙ stable x ∙ ties_are x xs)

  -- a stable sort keeps those of each key
  pub stable_keys : (xs ys : List Definition) → IsStableBy (is_before ts) xs ys → (k : Text) →
      at_first k (items_of ts ys) ≡ at_first k (items_of ts xs)
  stable_keys xs ys stable k =
      let kept : filter (λ d. same_key k (first_of (item_of ts d))) ys ≡ filter (λ d. same_key k
      (first_of (item_of ts d))) xs =
      elim (found_or_none k ys) [
        | inr found ↦ at_one k found.0 xs ys stable found.1
        | inl none ↦ elim (found_or_none k xs) [
          | inr found ↦ at_one k found.0 xs ys stable found.1
          | inl neither ↦ none ∙ sym neither
        ]
      ] in
      at_first_is k ys ∙ ap (items_of ts) kept ∙ sym (at_first_is k xs)

  -- one more passes
  pub firsts_more : (p : Text → Bool) (ds : List Definition) (i : ℕ) (d : Definition) → i < length ds →
      p (first_of (item_of ts (slice_index_or ds i d))) ≡ true → FirstsAre p (items_of ts (take i ds)) →
      FirstsAre p (items_of ts (take (i + 1) ds))
  firsts_more p ds i d within passes before =
      rw (take_more ds i d within, map-append (item_of ts) (take i ds) (slice_index_or ds i d ∷ []))
      (firsts_append p (items_of ts (take i ds)) _ before (passes, tt))
    where
      firsts_append : (p : Text → Bool) (is js : List Item) → FirstsAre p is → FirstsAre p js → FirstsAre p (is ++ js)
      firsts_append p [] js a b = b
      firsts_append p (i ∷ is) js a b = (a.0, firsts_append p is js a.1 b)

  -- each passes
  pub firsts_at : (p : Text → Bool) (ds : List Definition) (n i : ℕ) (d : Definition) → i < n → n ≤ length ds →
      FirstsAre p (items_of ts (take n ds)) → p (first_of (item_of ts (slice_index_or ds i d))) ≡ true
  firsts_at p [] n i d under within all = absurd (omega arith)
  firsts_at p (e ∷ ds) zero i d under within all = absurd (omega arith)
  firsts_at p (e ∷ ds) (suc n) zero d under within all = all.0
  firsts_at p (e ∷ ds) (suc n) (suc i) d under within all = firsts_at p ds n i d (omega arith) (omega arith) all.1
