-- The CRC register after a body and its CRC sequence.
use Rattle.std.proofs.Common.{◌≡◌, ◌+◌, ◌*◌, ◌^◌, ◌<◌, ◌==◌, ℕ, zero, suc, Bool, true, false, List}
use Rattle.std.proofs.Common.{[], ◌∷◌, ◌++◌, length, refl, ap, sym, subst, ◌∙◌, arith, inl, inr}
use Rattle.std.proofs.Math.Nat.{pow-succ'}
use Rattle.std.proofs.lemmas.Bool.{cases_Bool, eqb-true, eqb-false}
use Rattle.std.specs.Prelude.{bit_xor}
use Rattle.std.specs.Int.Bits.{xor_block, xor_zero_l}
use Rattle.can_levels.specs.declared.level.Level.{Level}
use Rattle.can_levels.specs.Digits.{value}
use Rattle.can_levels.specs.Check.{generator, product, IsMultiple, Crc}
use Rattle.can_bits.specs.Inside.Gathering.{SaysWhetherRight}
use Rattle.can_levels.proofs.Products.{IsMultiple-double, multiples_agree}

-- the generator and a double: their sum is odd
odd_sum : (m : ℕ) → (k : ℕ) × (bit_xor generator (2 * m) ≡ 2 * k + 1)
odd_sum m =
    let half : ℕ = 25292 in
    let block = xor_block 1 half m 1 0 (omega arith) (omega arith) in
    let left : half * 2 ^ 1 + 1 ≡ generator = refl in
    let right : m * 2 ^ 1 + 0 ≡ 2 * m = omega arith in
    let one : bit_xor 1 0 ≡ 1 = refl in
    let whole : bit_xor generator (2 * m) ≡ bit_xor half m * 2 ^ 1 + bit_xor 1 0 = rw (← left, ← right) block in
    (bit_xor half m, whole ∙ omega (arith, one))

-- half of a multiple is one
half_multiple : (n m : ℕ) (q : List Bool) → m ≡ 2 * n → m ≡ product generator q → IsMultiple n
half_multiple n m [] e h = ([], omega arith)
half_multiple n m (false ∷ q) e h =
    let double : product generator (false ∷ q) ≡ 2 * product generator q = xor_zero_l (2 * product generator q) in
    (q, omega (arith, double))
half_multiple n m (true ∷ q) e h = let (k, odd) = odd_sum (product generator q) in absurd (omega (arith, odd))

-- a polynomial of which a product with a power of x is a multiple is a multiple itself
pub shifted_down : (k n : ℕ) → IsMultiple (n * 2 ^ k) → IsMultiple n
shifted_down zero n h = let e : n * 2 ^ zero ≡ n = omega arith in subst IsMultiple e h
shifted_down (suc k) n h =
    let e : n * 2 ^ suc k ≡ 2 * (n * 2 ^ k) = rw (pow-succ' 2 k) (omega arith) in
    shifted_down k n (half_multiple (n * 2 ^ k) (n * 2 ^ suc k) h.0 e h.1)

-- and the other way round
pub shifted_up : (k n : ℕ) → IsMultiple n → IsMultiple (n * 2 ^ k)
shifted_up zero n h = let e : n ≡ n * 2 ^ zero = omega arith in subst IsMultiple e h
shifted_up (suc k) n h =
    let e : 2 * (n * 2 ^ k) ≡ n * 2 ^ suc k = rw (pow-succ' 2 k) (omega arith) in
    subst IsMultiple e (IsMultiple-double (n * 2 ^ k) (shifted_up k n h))

-- the register after a body and 15 levels is 0 exactly where these are its CRC sequence
pub register_says : (w b c : List Level) (r : ℕ) → r < 2 ^ 15 → IsMultiple (value w * 2 ^ 15 + r) → w ≡ b ++ c →
    length c ≡ 15 → SaysWhetherRight (r == 0) b c
register_says w b c r fits divides whole count =
    elim (cases_Bool (r == 0)) [
      | inl t ↦
          let none : value w * 2 ^ 15 + r ≡ value w * 2 ^ 15 = omega (arith, eqb-true r 0 t) in
          let all : IsMultiple (value w) = shifted_down 15 (value w) (subst IsMultiple none divides) in
          let right : Crc b c = record { count = count; divides = subst IsMultiple (ap value whole) all } in
          rw t right
      | inr f ↦ rw f (λ right.
          let all : IsMultiple (value w) = subst IsMultiple (ap value (sym whole)) right.divides in
          let none : value w * 2 ^ 15 ≡ value w * 2 ^ 15 + 0 = omega arith in
          eqb-false r 0 f (multiples_agree (value w) r 0 fits (omega arith) divides
          (subst IsMultiple none (shifted_up 15 (value w) all))))
    ]
