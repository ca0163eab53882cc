-- Names of lists, by node.
use Rattle.std.proofs.Common.{◌≡◌, ℕ, zero, suc, ◌<◌, List, [], ◌∷◌, length, map, drop, refl, sym, ap, ◌∙◌, subst}
use Rattle.std.proofs.Common.{arith}
use Rattle.std.specs.Prelude.{Some, slice_get, slice_index_or}

-- what the first of the rest of a list maps to
pub get_mapped : {A : Type 0} (f : A → ℕ) (xs rest : List A) (n : ℕ) (x : A) → drop n xs ≡ x ∷ rest →
    slice_get (map f xs) n ≡ Some (f x)
get_mapped f [] rest zero x e = absurd cc
get_mapped f [] rest (suc n) x e = absurd cc
get_mapped f (y ∷ xs) rest zero x e = let same : y ≡ x = cc in ap (λ z. Some (f z)) same
get_mapped f (y ∷ xs) rest (suc n) x e = get_mapped f xs rest n x e

-- and the one at a place
pub get_placed : {A B : Type 0} (f : A → B) (xs : List A) (n : ℕ) (x : A) → n < length xs →
    slice_get (map f xs) n ≡ Some (f (slice_index_or xs n x))
get_placed f [] n x less = absurd (omega (arith, less))
get_placed f (y ∷ xs) zero x less = refl
get_placed f (y ∷ xs) (suc n) x less = get_placed f xs n x (omega (arith, less))
