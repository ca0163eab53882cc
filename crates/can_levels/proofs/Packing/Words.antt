-- Single binary digits of a word.
use Rattle.std.proofs.Common.{◌≡◌, ◌+◌, ◌-◌, ◌*◌, ◌/◌, ◌%◌, ◌^◌, ◌<◌, ◌≤◌, ℕ, ap, sym, ◌∙◌, arith}
use Rattle.std.proofs.lemmas.Nat.{field_of, mod-pow-add, mod-mul-add, shr-shr, shl-shr}

-- one of the lowest digits
pub digit_low : (n a b : ℕ) → b < a → n % 2 ^ a / 2 ^ b % 2 ≡ n / 2 ^ b % 2
digit_low n a b below =
    let j = a - b - 1 in
    let q = n / 2 ^ b in
    let sum : a ≡ j + 1 + b = omega (arith, below) in
    ap (λ k. n % 2 ^ k / 2 ^ b % 2) sum ∙ ap (λ m. m % 2) (field_of n (j + 1) b ∙ mod-pow-add q j 1)
    ∙ mod-mul-add (q / 2 % 2 ^ j) 2 (q % 2) (omega arith)

-- one of a word that is moved up
pub digit_moved : (n s b : ℕ) → n * 2 ^ s / 2 ^ (s + b) ≡ n / 2 ^ b
digit_moved n s b = sym (shr-shr (n * 2 ^ s) s b) ∙ ap (λ m. m / 2 ^ b) (shl-shr n s)

-- one of 128 digits of which the highest of the word is the first
pub digit_from_top : (n left k : ℕ) → left ≤ 128 → k < left →
    n * 2 ^ (128 - left) % 2 ^ 128 / 2 ^ (127 - k) % 2 ≡ n / 2 ^ (left - 1 - k) % 2
digit_from_top n left k room before =
    let s = 128 - left in
    let b = left - 1 - k in
    let sum : 127 - k ≡ s + b = omega (arith, room, before) in
    ap (λ m. n * 2 ^ s % 2 ^ 128 / 2 ^ m % 2) sum ∙ digit_low (n * 2 ^ s) 128 (s + b) (omega (arith, room, before))
    ∙ ap (λ m. m % 2) (digit_moved n s b)

-- one of the 64 digits from a place on
pub digit_from : (n left k : ℕ) → left ≤ 128 → k < left → k < 64 →
    n * 2 ^ (128 - left) % 2 ^ 128 / 2 ^ 64 / 2 ^ (63 - k) % 2 ≡ n / 2 ^ (left - 1 - k) % 2
digit_from n left k room before within =
    let m = n * 2 ^ (128 - left) % 2 ^ 128 in
    let sum : 64 + (63 - k) ≡ 127 - k = omega (arith, within) in
    ap (λ q. q % 2) (shr-shr m 64 (63 - k)) ∙ ap (λ j. m / 2 ^ j % 2) sum ∙ digit_from_top n left k room before

-- with the highest of 64 digits gone each one stands a place higher
pub digit_next : (n k : ℕ) → k < 63 → 2 * (n % 2 ^ 63) / 2 ^ (63 - k) % 2 ≡ n / 2 ^ (63 - (k + 1)) % 2
digit_next n k within =
    let b = 63 - (k + 1) in
    let sum : 63 - k ≡ 1 + b = omega (arith, within) in
    let twice : 2 * (n % 2 ^ 63) ≡ n % 2 ^ 63 * 2 ^ 1 = omega arith in
    ap (λ m. m / 2 ^ (63 - k) % 2) twice ∙ ap (λ m. n % 2 ^ 63 * 2 ^ 1 / 2 ^ m % 2) sum
    ∙ ap (λ m. m % 2) (digit_moved (n % 2 ^ 63) 1 b) ∙ digit_low n 63 b (omega arith)
