-- Lists whose elements are related place by place.
use Rattle.std.proofs.Common.{◌≡◌, ℕ, zero, suc, ◌<◌, List, [], ◌∷◌, ◌++◌, length, slice_index_or, slice_set, refl}
use Rattle.std.proofs.Common.{arith}
use Rattle.lemmas.specs.Related.{EachRelated}

pub each_refl : {A : Type 0} (R : A → A → Type 0) → ((x : A) → R x x) → (xs : List A) → EachRelated R xs xs
each_refl R r [] = tt
each_refl R r (x ∷ xs) = (r x, each_refl R r xs)

-- being related carries over
pub each_trans : {A : Type 0} (R : A → A → Type 0) → ((x y z : A) → R x y → R y z → R x z) → (xs ys zs : List A) →
    EachRelated R xs ys → EachRelated R ys zs → EachRelated R xs zs
each_trans R t [] [] [] p q = tt
each_trans R t [] [] (z ∷ zs) p q = absurd q
each_trans R t [] (y ∷ ys) zs p q = absurd p
each_trans R t (x ∷ xs) [] zs p q = absurd p
each_trans R t (x ∷ xs) (y ∷ ys) [] p q = absurd q
each_trans R t (x ∷ xs) (y ∷ ys) (z ∷ zs) p q = (t x y z p.0 q.0, each_trans R t xs ys zs p.1 q.1)

-- one was exchanged for one that is related
pub each_one : {A : Type 0} (R : A → A → Type 0) → ((x : A) → R x x) → (xs : List A) (i : ℕ) (d z : A) →
    i < length xs → R (slice_index_or xs i d) z → EachRelated R xs (slice_set xs i z)
each_one R r [] i d z h p = tt
each_one R r (x ∷ xs) zero d z h p = (p, each_refl R r xs)
each_one R r (x ∷ xs) (suc i) d z h p = (r x, each_one R r xs i d z (omega arith) p)

-- what related elements have in common, at each place
pub each_at : {A B : Type 0} (R : A → A → Type 0) (f : A → B) → ((x y : A) → R x y → f y ≡ f x) →
    (xs ys : List A) (i : ℕ) (d : A) → EachRelated R xs ys → f (slice_index_or ys i d) ≡ f (slice_index_or xs i d)
each_at R f t [] [] i d p = refl
each_at R f t [] (y ∷ ys) i d p = absurd p
each_at R f t (x ∷ xs) [] i d p = absurd p
each_at R f t (x ∷ xs) (y ∷ ys) zero d p = t x y p.0
each_at R f t (x ∷ xs) (y ∷ ys) (suc i) d p = each_at R f t xs ys i d p.1

-- one more at the end of each
pub related_push : {A B : Type 0} (R : A → B → Type 0) (xs : List A) (ys : List B) (x : A) (y : B) →
    EachRelated R xs ys → R x y → EachRelated R (xs ++ x ∷ []) (ys ++ y ∷ [])
related_push R [] [] x y p r = (r, tt)
related_push R [] (v ∷ ys) x y p r = absurd p
related_push R (u ∷ xs) [] x y p r = absurd p
related_push R (u ∷ xs) (v ∷ ys) x y p r = (p.0, related_push R xs ys x y p.1 r)
