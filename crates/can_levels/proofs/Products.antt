-- Products with the generator, as polynomials over two elements.
use Rattle.std.proofs.Common.{◌≡◌, ◌+◌, ◌*◌, ◌/◌, ◌^◌, ◌<◌, ◌≤◌, ◌⊎◌, inl, inr, ℕ, Bool}
use Rattle.std.proofs.Common.{true, false, List, [], ◌∷◌, refl, ap, sym, ◌∙◌, arith}
use Rattle.std.specs.Prelude.{bit_xor}
use Rattle.std.specs.Int.Bits.{xor_block, xor_comm, xor_assoc, xor_lt, xor_self, xor_shr, xor_zero_l, xor_zero_r}
use Rattle.lemmas.proofs.Numbers.{same_from_xor}
use Rattle.can_levels.specs.Check.{generator, scaled, product, IsMultiple}

-- the sum of two elements
plus : Bool → Bool → Bool
plus false b = b
plus true false = true
plus true true = false

-- the sum of two polynomials, by their coefficients
sum_of : List Bool → List Bool → List Bool
sum_of [] q = q
sum_of (a ∷ p) [] = a ∷ p
sum_of (a ∷ p) (b ∷ q) = plus a b ∷ sum_of p q

-- the double of a sum
double-xor : (a b : ℕ) → 2 * bit_xor a b ≡ bit_xor (2 * a) (2 * b)
double-xor a b =
    let block = xor_block 1 a b 0 0 (omega arith) (omega arith) in
    let left : a * 2 ^ 1 + 0 ≡ 2 * a = omega arith in
    let right : b * 2 ^ 1 + 0 ≡ 2 * b = omega arith in
    let doubled : bit_xor (2 * a) (2 * b) ≡ bit_xor a b * 2 ^ 1 + bit_xor 0 0 = rw (← left, ← right) block in
    sym (doubled ∙ omega (arith, xor_zero_l 0))

-- a sum of constants times a polynomial
scaled-plus : (a b : Bool) (p : ℕ) → scaled (plus a b) p ≡ bit_xor (scaled a p) (scaled b p)
unfolding plus
scaled-plus false b p = sym (xor_zero_l (scaled b p))
scaled-plus true false p = sym (xor_zero_r p)
scaled-plus true true p = sym (xor_self p)

-- four terms in another order
xor-swap : (a b c d : ℕ) → bit_xor (bit_xor a b) (bit_xor c d) ≡ bit_xor (bit_xor a c) (bit_xor b d)
xor-swap a b c d =
    xor_assoc a b (bit_xor c d)
    ∙ ap (λ x. bit_xor a x) (sym (xor_assoc b c d) ∙ ap (λ x. bit_xor x d) (xor_comm b c) ∙ xor_assoc c b d)
    ∙ sym (xor_assoc a c (bit_xor b d))

-- a sum of products is the product of the sum
product-sum_of : (g : ℕ) (p q : List Bool) → product g (sum_of p q) ≡ bit_xor (product g p) (product g q)
unfolding sum_of
product-sum_of g [] q = sym (xor_zero_l (product g q))
product-sum_of g (a ∷ p) [] = sym (xor_zero_r (product g (a ∷ p)))
product-sum_of g (a ∷ p) (b ∷ q) =
    rw (scaled-plus a b g, product-sum_of g p q, double-xor (product g p) (product g q))
    (xor-swap (scaled a g) (scaled b g) (2 * product g p) (2 * product g q))

-- the sum of two multiples is a multiple
pub IsMultiple-xor : (m n : ℕ) → IsMultiple m → IsMultiple n → IsMultiple (bit_xor m n)
IsMultiple-xor m n (p, h) (q, k) = (
  sum_of p q,
  ap (λ x. bit_xor x n) h ∙ ap (λ x. bit_xor (product generator p) x) k
      ∙ sym (product-sum_of generator p q),
)

-- the generator alone
with_none : (q : List Bool) → product generator q ≡ 0 → 2 ^ 15 ≤ product generator (true ∷ q)
with_none q h =
    let e : product generator (true ∷ q) ≡ generator = ap (λ x. bit_xor generator (2 * x)) h ∙ xor_zero_r generator in
    omega (arith, e)

-- the generator and the double of something that has its degree
with_more : (q : List Bool) → 2 ^ 15 ≤ product generator q → 2 ^ 15 ≤ product generator (true ∷ q)
with_more q h =
    let shifted = xor_shr generator (2 * product generator q) 16 in
    let none : generator / 2 ^ 16 ≡ 0 = refl in
    let e : product generator (true ∷ q) / 2 ^ 16 ≡ 2 * product generator q / 2 ^ 16 =
    shifted ∙ ap (λ x. bit_xor x (2 * product generator q / 2 ^ 16)) none
    ∙ xor_zero_l (2 * product generator q / 2 ^ 16) in
    omega (arith, e)

-- a multiple of the generator is 0 or has its degree
product-large : (q : List Bool) → (product generator q ≡ 0) ⊎ (2 ^ 15 ≤ product generator q)
product-large [] = inl refl
product-large (false ∷ q) =
    let e : product generator (false ∷ q) ≡ 2 * product generator q = xor_zero_l (2 * product generator q) in
    elim (product-large q) [ inl h ↦ inl (e ∙ omega (arith, h)) | inr h ↦ inr (omega (arith, e, h)) ]
product-large (true ∷ q) = inr (elim (product-large q) [ inl h ↦ with_none q h | inr h ↦ with_more q h ])

-- multiples that differ in their lowest 15 digits alone don't differ
pub multiples_agree : (v c d : ℕ) → c < 2 ^ 15 → d < 2 ^ 15 → IsMultiple (v * 2 ^ 15 + c) →
    IsMultiple (v * 2 ^ 15 + d) → c ≡ d
multiples_agree v c d hc hd mc md =
    let e : bit_xor (v * 2 ^ 15 + c) (v * 2 ^ 15 + d) ≡ bit_xor c d =
    xor_block 15 v v c d hc hd ∙ ap (λ x. x * 2 ^ 15 + bit_xor c d) (xor_self v) ∙ omega arith in
    let both = IsMultiple-xor (v * 2 ^ 15 + c) (v * 2 ^ 15 + d) mc md in
    let small = xor_lt 15 c d hc hd in
    elim (product-large both.0) [
      | inl h ↦ same_from_xor c d (sym e ∙ both.1 ∙ h)
      | inr h ↦ absurd (omega (arith, h, e, both.1, small))
    ]

-- a multiple stays one as all digits move up by one
pub IsMultiple-double : (n : ℕ) → IsMultiple n → IsMultiple (2 * n)
IsMultiple-double n (q, h) = (false ∷ q, ap (λ x. 2 * x) h ∙ sym (xor_zero_l (2 * product generator q)))

-- and where the generator is added too
pub IsMultiple-double-add : (n : ℕ) → IsMultiple n → IsMultiple (bit_xor generator (2 * n))
IsMultiple-double-add n (q, h) = (true ∷ q, ap (λ x. bit_xor generator (2 * x)) h)
