-- Lists, element by element.
use Rattle.std.proofs.Common.{◌≤◌, ℕ, zero, suc, List, [], ◌∷◌, length, map, take, All, subst, arith}
use Rattle.std.proofs.lemmas.List.{take_all}
use Rattle.std.proofs.lemmas.List.Elements.{All-head, All-tail}
use Rattle.std.specs.List.{AllZip}

-- what holds of all that is said
pub all_said : {A B : Type 0} (Says : A → B → Type 0) (P : B → Type 0) → ((x : A) (y : B) → Says x y → P y) →
    (xs : List A) (ys : List B) → AllZip Says xs ys → All P ys
all_said Says P holds [] [] z k d w = absurd (omega arith)
all_said Says P holds [] (y ∷ ys) z k d w = absurd z
all_said Says P holds (x ∷ xs) [] z k d w = absurd z
all_said Says P holds (x ∷ xs) (y ∷ ys) z zero d w = holds x y z.0
all_said Says P holds (x ∷ xs) (y ∷ ys) z (suc k) d w = all_said Says P holds xs ys z.1 k d (omega arith)

-- what is made of each element says it
pub said_of_each : {A B : Type 0} (f : B → A) (Says : A → B → Type 0) (P : B → Type 0) →
    ((y : B) → P y → Says (f y) y) → (ys : List B) → All P ys → AllZip Says (map f ys) ys
said_of_each f Says P says [] h = tt
said_of_each f Says P says (y ∷ ys) h =
    (says y (All-head P y ys h), said_of_each f Says P says ys (All-tail P y ys h))

-- what holds of each by two facts
pub both_of_each : {A : Type 0} (P Q : A → Type 0) (xs : List A) → All P xs → All Q xs → All (λ x. P x × Q x) xs
both_of_each P Q xs p q k d w = (p k d w, q k d w)

-- what holds of the first of them, where these are all
pub all_taken : {A : Type 0} (P : A → Type 0) (xs : List A) (i : ℕ) → length xs ≤ i → All P (take i xs) → All P xs
all_taken {A} P xs i past h = subst (λ (ys : List A). All P ys) (take_all i xs past) h
