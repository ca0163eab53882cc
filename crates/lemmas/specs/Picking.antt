-- Lists beside lists (this project's own rule).
use Rattle.std.specs.Prelude.{List, [], ◌∷◌, ◌++◌}

-- of the elements that have the property each has its partner, in order and each once; the others have none
pub data Picks {A B : Type 0} (P : A → Type 0) (R : A → B → Type 0) : List A → List B → Type 0 where
  nothing : Picks P R [] []
  picked : {xs : List A} {ys : List B} (x : A) (y : B) → P x → R x y → Picks P R xs ys → Picks P R (x ∷ xs) (y ∷ ys)
  left : {xs : List A} {ys : List B} (x : A) → (P x → ⊥) → Picks P R xs ys → Picks P R (x ∷ xs) ys

-- P holds of each element and what stands before it
abbrev pub EachAfter : {X : Type 0} → (List X → X → Type 0) → List X → List X → Type 0
EachAfter P before [] = Unit {0}
EachAfter P before (x ∷ xs) = P before x × EachAfter P (before ++ x ∷ []) xs
