-- The last of a list.
use Rattle.std.proofs.Common.{◌≡◌, List, [], ◌∷◌, ◌++◌, map, refl}
use Rattle.std.specs.Prelude.{◌-◌, Some}
use Rattle.sja_session.specs.Answering.{last_of}

pub last_pushed : {X Y : Type 0} (f : X → Y) (xs : List X) (x : X) → last_of f (xs ++ x ∷ []) ≡ Some (f x)
last_pushed f [] x = refl
last_pushed f (y ∷ []) x = refl
last_pushed f (y ∷ z ∷ xs) x = last_pushed f (z ∷ xs) x

pub last_mapped : {X Y Z : Type 0} (f : Y → Z) (g : X → Y) (xs : List X) →
    last_of f (map g xs) ≡ last_of (λ x. f (g x)) xs
last_mapped f g [] = refl
last_mapped f g (x ∷ []) = refl
last_mapped f g (x ∷ y ∷ xs) = last_mapped f g (y ∷ xs)
