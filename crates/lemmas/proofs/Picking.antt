-- Lists beside lists with an element more, and what holds of each element and of those before it.
use Rattle.std.proofs.Common.{List, [], ◌∷◌, ◌++◌, sym, subst, append_assoc, append-nil}
use Rattle.lemmas.specs.Picking.{Picks, EachAfter}
use Rattle.lemmas.specs.Picking.Picks.{nothing, picked, left}

-- one more is picked
pub picks_push : {A B : Type 0} {P : A → Type 0} {R : A → B → Type 0} {xs : List A} {ys : List B} (x : A) (y : B) →
    P x → R x y → Picks P R xs ys → Picks P R (xs ++ x ∷ []) (ys ++ y ∷ [])
picks_push x y h r nothing = picked x y h r nothing
picks_push x y h r (picked v w g q more) = picked v w g q (picks_push x y h r more)
picks_push x y h r (left v g more) = left v g (picks_push x y h r more)

-- one more is left
pub leaves_push : {A B : Type 0} {P : A → Type 0} {R : A → B → Type 0} {xs : List A} {ys : List B} (x : A) → (P x → ⊥) →
    Picks P R xs ys → Picks P R (xs ++ x ∷ []) ys
leaves_push x h nothing = left x h nothing
leaves_push x h (picked v w g q more) = picked v w g q (leaves_push x h more)
leaves_push x h (left v g more) = left v g (leaves_push x h more)

-- what holds of each element, and of one more at the end
pub each_push : {X : Type 0} (P : List X → X → Type 0) (before xs : List X) (x : X) → EachAfter P before xs →
    P (before ++ xs) x → EachAfter P before (xs ++ x ∷ [])
each_push P before [] x h p = (subst (λ b. P b x) (append-nil before) p, tt)
each_push P before (y ∷ xs) x h p =
    (h.0, each_push P (before ++ y ∷ []) xs x h.1 (subst (λ b. P b x) (sym (append_assoc before (y ∷ []) xs)) p))

-- what follows of each element
pub each_map : {X : Type 0} (P Q : List X → X → Type 0) → ((before : List X) (x : X) → P before x → Q before x) →
    (before xs : List X) → EachAfter P before xs → EachAfter Q before xs
each_map P Q f before [] h = tt
each_map P Q f before (x ∷ xs) h = (f before x h.0, each_map P Q f (before ++ x ∷ []) xs h.1)

-- what holds of each element holds of those before the last one, and of that
pub each_front : {X : Type 0} (P : List X → X → Type 0) (before xs : List X) (x : X) →
    EachAfter P before (xs ++ x ∷ []) → EachAfter P before xs × P (before ++ xs) x
each_front P before [] x h = (tt, subst (λ l. P l x) (sym (append-nil before)) h.0)
each_front P before (y ∷ xs) x h =
    let rest = each_front P (before ++ y ∷ []) xs x h.1 in
    ((h.0, rest.0), subst (λ l. P l x) (append_assoc before (y ∷ []) xs) rest.1)

-- and of one that others come after
pub each_inside : {X : Type 0} (P : List X → X → Type 0) (before xs ys : List X) (y : X) →
    EachAfter P before (xs ++ y ∷ ys) → P (before ++ xs) y
each_inside P before [] ys y h = subst (λ l. P l y) (sym (append-nil before)) h.0
each_inside P before (x ∷ xs) ys y h =
    subst (λ l. P l y) (append_assoc before (x ∷ []) xs) (each_inside P (before ++ x ∷ []) xs ys y h.1)
