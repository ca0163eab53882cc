-- What is gathered from two lists, one after the other, and how much the elements of a list count for.
use Rattle.std.proofs.Common.{◌≡◌, ◌≢◌, ◌+◌, ◌<◌, ◌≤◌, ℕ, zero, suc, List, [], ◌∷◌, ◌++◌, length, get_or, take, sym, ap}
use Rattle.std.proofs.Common.{◌∙◌, subst, append-nil, append_assoc, zero-add, add-zero, add_assoc, refl, arith}
use Rattle.lemmas.specs.Gathering.{gathered, total}

pub gathered_append : {A B : Type 0} (f : A → List B) (xs ys : List A) →
    gathered f (xs ++ ys) ≡ gathered f xs ++ gathered f ys
gathered_append f [] ys = refl
gathered_append f (x ∷ xs) ys = ap (λ l. f x ++ l) (gathered_append f xs ys)
    ∙ sym (append_assoc (f x) (gathered f xs) (gathered f ys))

pub gathered_push : {A B : Type 0} (f : A → List B) (xs : List A) (y : A) →
    gathered f (xs ++ y ∷ []) ≡ gathered f xs ++ f y
gathered_push f xs y = gathered_append f xs (y ∷ []) ∙ ap (λ l. gathered f xs ++ l) (append-nil (f y))

pub total_append : {A : Type 0} (f : A → ℕ) (xs ys : List A) → total f (xs ++ ys) ≡ total f xs + total f ys
total_append f [] ys = sym (zero-add (total f ys))
total_append f (x ∷ xs) ys = ap (λ n. f x + n) (total_append f xs ys) ∙ sym (add_assoc (f x) (total f xs) (total f ys))

pub total_push : {A : Type 0} (f : A → ℕ) (xs : List A) (y : A) → total f (xs ++ y ∷ []) ≡ total f xs + f y
total_push f xs y = total_append f xs (y ∷ []) ∙ ap (λ n. total f xs + n) (add-zero (f y))

-- where none counts for more than 1
pub total_few : {A : Type 0} (f : A → ℕ) → ((x : A) → f x ≤ 1) → (xs : List A) → total f xs ≤ length xs
total_few f one [] = omega arith
total_few f one (x ∷ xs) = let a = one x in let b = total_few f one xs in omega (arith, a, b)

counted : {A : Type 0} (f : A → ℕ) (xs : List A) (k : ℕ) (d : A) → k < length xs →
    1 ≤ f (get_or xs k d) → 1 ≤ total f xs
counted f [] k d less some = absurd (omega (arith, less))
counted f (x ∷ xs) zero d less some = omega (arith, some)
counted f (x ∷ xs) (suc k) d less some = let n = counted f xs k d (omega (arith, less)) some in omega (arith, n)

not_counted : {A : Type 0} (f : A → ℕ) (xs : List A) (k : ℕ) (d : A) → k < length xs → f (get_or xs k d) ≡ 0 →
    total f (take k xs) ≡ 0 →
    total f (take (suc k) xs) ≡ 0
not_counted f [] k d less none before = absurd (omega (arith, less))
not_counted f (x ∷ xs) zero d less none before = omega (arith, none)
not_counted f (x ∷ xs) (suc k) d less none before =
    let n = not_counted f xs k d (omega (arith, less)) none (omega (arith, before)) in omega (arith, n, before)

-- the element at this place counts
pub counted_here : {A : Type 0} (f : A → ℕ) (xs : List A) (k : ℕ) (x y : A) → k < length xs → x ≡ get_or xs k x →
    x ≡ y → f y ≡ 1 → total f xs ≢ 0
counted_here f xs k x y less here same one none =
    let P : _ → Type 0 = λ z. 1 ≤ f z in
    let some : 1 ≤ f x = subst P (sym same) (omega (arith, one)) in
    let n = counted f xs k x less (subst P here some) in omega (arith, n, none)

-- it doesn't, and none before it does
pub not_counted_here : {A : Type 0} (f : A → ℕ) (xs : List A) (k : ℕ) (x : A) → k < length xs → x ≡ get_or xs k x →
    f x ≡ 0 → total f (take k xs) ≡ 0 →
    total f (take (suc k) xs) ≡ 0
not_counted_here f xs k x less here none before = not_counted f xs k x less (subst (λ z. f z ≡ 0) here none) before
