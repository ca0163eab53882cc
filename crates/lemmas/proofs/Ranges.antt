-- Numbers one after another, and what is gathered from them.
use Rattle.std.proofs.Common.{◌≡◌, ◌≤◌, ◌+◌, ◌-◌, ℕ, zero, suc, List, [], ◌∷◌, ◌++◌, ap, ◌∙◌, arith}
use Rattle.std.specs.List.{range_with_len}
use Rattle.lemmas.specs.Gathering.{gathered}
use Rattle.lemmas.proofs.Gathered.{gathered_push}

-- one number more at the end
range_push : (a n j : ℕ) → a + n ≡ j → range_with_len a (suc n) ≡ range_with_len a n ++ j ∷ []
range_push a zero j e = let same : a ≡ j = omega (arith, e) in ap (λ k. k ∷ []) same
range_push a (suc n) j e = ap (λ l. a ∷ l) (range_push (a + 1) n j (omega (arith, e)))

-- the numbers from the first one to one more
pub range_from : (first i : ℕ) → first ≤ i →
    range_with_len first ((i + 1) - first) ≡ range_with_len first (i - first) ++ i ∷ []
range_from first i low =
    let one : (i + 1) - first ≡ suc (i - first) = omega (arith, low) in
    ap (range_with_len first) one ∙ range_push first (i - first) i (omega (arith, low))

-- what is gathered from them
pub gathered_from : {B : Type 0} (f : ℕ → List B) (first i : ℕ) → first ≤ i →
    gathered f (range_with_len first ((i + 1) - first)) ≡ gathered f (range_with_len first (i - first)) ++ f i
gathered_from f first i low =
    ap (gathered f) (range_from first i low) ∙ gathered_push f (range_with_len first (i - first)) i

-- and from 0 on
pub gathered_to : {B : Type 0} (f : ℕ → List B) (n : ℕ) →
    gathered f (range_with_len 0 (n + 1)) ≡ gathered f (range_with_len 0 n) ++ f n
gathered_to f n =
    let one : n + 1 ≡ suc n = omega arith in
    ap (λ m. gathered f (range_with_len 0 m)) one ∙ ap (gathered f) (range_push 0 n n (omega arith))
    ∙ gathered_push f (range_with_len 0 n) n

-- nothing is gathered before the first one
pub gathered_before : {B : Type 0} (f : ℕ → List B) (first i : ℕ) → i ≤ first →
    gathered f (range_with_len first (i - first)) ≡ []
gathered_before f first i before =
    let none : i - first ≡ 0 = omega (arith, before) in ap (λ n. gathered f (range_with_len first n)) none
