-- A list whose elements are changed one after another.
use Rattle.std.proofs.Common.{◌≡◌, ℕ, ◌+◌, ◌<◌, ◌≤◌, zero, suc, List, [], ◌∷◌, length, slice_index_or, slice_set}
use Rattle.std.proofs.Common.{refl, arith, subst}
use Rattle.lemmas.specs.Related.{EachRelated}

-- so many elements are related to those that were there, and the others are as they were
abbrev pub Part : {A : Type 0} → (A → A → Type 0) → ℕ → List A → List A → Type 0
Part R k [] [] = Unit {0}
Part R k [] (y ∷ ys) = ⊥
Part R k (x ∷ xs) [] = ⊥
Part R zero (x ∷ xs) (y ∷ ys) = (y ≡ x) × Part R zero xs ys
Part R (suc k) (x ∷ xs) (y ∷ ys) = R x y × Part R k xs ys

-- none yet
pub part_none : {A : Type 0} (R : A → A → Type 0) (xs : List A) → Part R 0 xs xs
part_none R [] = tt
part_none R (x ∷ xs) = (refl, part_none R xs)

-- the next one is as it was
pub part_at : {A : Type 0} (R : A → A → Type 0) (k : ℕ) (xs ys : List A) (d : A) → Part R k xs ys → k < length ys →
    slice_index_or ys k d ≡ slice_index_or xs k d
part_at R k [] [] d p less = absurd (omega (arith, less))
part_at R k [] (y ∷ ys) d p less = absurd p
part_at R k (x ∷ xs) [] d p less = absurd (omega (arith, less))
part_at R zero (x ∷ xs) (y ∷ ys) d p less = p.0
part_at R (suc k) (x ∷ xs) (y ∷ ys) d p less = part_at R k xs ys d p.1 (omega (arith, less))

-- one more
part_more : {A : Type 0} (R : A → A → Type 0) (k : ℕ) (xs ys : List A) (d z : A) → Part R k xs ys →
    k < length ys → R (slice_index_or ys k d) z → Part R (suc k) xs (slice_set ys k z)
part_more R k [] [] d z p less r = tt
part_more R k [] (y ∷ ys) d z p less r = absurd p
part_more R k (x ∷ xs) [] d z p less r = absurd (omega (arith, less))
part_more {A} R zero (x ∷ xs) (y ∷ ys) d z p less r =
    let P : A → Type 0 = λ w. R w z in (subst P p.0 r, p.1)
part_more R (suc k) (x ∷ xs) (y ∷ ys) d z p less r =
    (p.0, part_more R k xs ys d z p.1 (omega (arith, less)) r)

pub part_next : {A : Type 0} (R : A → A → Type 0) (k : ℕ) (xs ys : List A) (d z : A) → Part R k xs ys →
    k < length ys → R (slice_index_or ys k d) z → Part R (k + 1) xs (slice_set ys k z)
part_next R k xs ys d z p less r =
    let one : suc k ≡ k + 1 = omega arith in
    let P : ℕ → Type 0 = λ n. Part R n xs (slice_set ys k z) in subst P one (part_more R k xs ys d z p less r)

-- all
pub part_all : {A : Type 0} (R : A → A → Type 0) (k : ℕ) (xs ys : List A) → Part R k xs ys → length ys ≤ k →
    EachRelated R xs ys
part_all R k [] [] p past = tt
part_all R k [] (y ∷ ys) p past = absurd p
part_all R k (x ∷ xs) [] p past = absurd p
part_all R zero (x ∷ xs) (y ∷ ys) p past = absurd (omega (arith, past))
part_all R (suc k) (x ∷ xs) (y ∷ ys) p past = (p.0, part_all R k xs ys p.1 (omega (arith, past)))
