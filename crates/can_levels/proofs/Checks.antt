-- The CRC sequence.
use Rattle.std.proofs.Common.{◌≡◌, ◌+◌, ◌*◌, ◌/◌, ◌%◌, ◌^◌, ◌<◌, ◌≢◌, ◌-◌, ℕ, zero, suc, List, [], ◌∷◌, ◌++◌, refl, ap}
use Rattle.std.proofs.Common.{sym, subst, ◌∙◌, arith, append_assoc, inl, inr}
use Rattle.std.proofs.lemmas.Bool.{cases_eq}
use Rattle.std.proofs.lemmas.List.{append-nil}
use Rattle.std.specs.Prelude.{bit_xor}
use Rattle.std.specs.Int.Bits.{xor_block, xor_comm, xor_lt, xor_zero_l}
use Rattle.can_levels.specs.declared.level.Level.{Level}
use Rattle.can_levels.specs.Digits.{digit, bits, value}
use Rattle.can_levels.specs.Check.{generator, IsMultiple, Crc}
use Rattle.can_levels.proofs.Values.{digit-lt, value-push, value-append, value-append-bits}
use Rattle.can_levels.proofs.Values.{value-lt, value-injective, length-bits}
use Rattle.can_levels.proofs.Products.{IsMultiple-double, IsMultiple-double-add, multiples_agree}

-- with these 15 digits after them the levels are a multiple of the generator
pub record Divided (b : List Level) (r : ℕ) : Type 0 where
  pub fits : r < 2 ^ 15
  pub divides : IsMultiple (value b * 2 ^ 15 + r)

-- no level: the register is 0
pub Divided-nothing : Divided [] 0
Divided-nothing = record { fits = omega arith; divides = ([], refl) }

-- one level more, equal to the highest digit of the register
pub Divided-same : (b : List Level) (r : ℕ) (x : Level) → Divided b r → r / 2 ^ 14 ≡ digit x →
    Divided (b ++ x ∷ []) (2 * (r % 2 ^ 14))
Divided-same b r x h top =
    let moved : 2 * (value b * 2 ^ 15 + r) ≡ value (b ++ x ∷ []) * 2 ^ 15 + 2 * (r % 2 ^ 14) =
    omega (arith, value-push b x) in
    record { fits = omega arith; divides = subst IsMultiple moved (IsMultiple-double (value b * 2 ^ 15 + r) h.divides) }

-- a lowest digit is turned round
xor-one : (v t : ℕ) → t < 2 → bit_xor 1 (2 * v + t) ≡ 2 * v + (1 - t)
xor-one v zero h =
    let block = xor_block 1 0 v 1 0 (omega arith) (omega arith) in
    let whole : v * 2 ^ 1 + 0 ≡ 2 * v + 0 = omega arith in
    ap (λ n. bit_xor 1 n) (sym whole) ∙ block ∙ omega (arith, xor_zero_l v)
xor-one v (suc zero) h =
    let block = xor_block 1 0 v 1 1 (omega arith) (omega arith) in
    let whole : v * 2 ^ 1 + 1 ≡ 2 * v + 1 = omega arith in
    ap (λ n. bit_xor 1 n) (sym whole) ∙ block ∙ omega (arith, xor_zero_l v)
xor-one v (suc (suc t)) h = absurd (omega arith)

-- one level more, other than the highest digit of the register: the generator is added
pub Divided-other : (b : List Level) (r : ℕ) (x : Level) → Divided b r → r / 2 ^ 14 ≢ digit x →
    Divided (b ++ x ∷ []) (bit_xor (2 * (r % 2 ^ 14)) 0x4599)
Divided-other b r x h top =
    let high : r / 2 ^ 14 < 2 = let fits = h.fits in omega arith in
    let low : 2 * (r % 2 ^ 14) < 2 ^ 15 = omega arith in
    let turned : 2 * value b + (1 - r / 2 ^ 14) ≡ value (b ++ x ∷ []) = omega (arith, value-push b x, digit-lt x) in
    let doubled : 2 * (value b * 2 ^ 15 + r) ≡ (2 * value b + r / 2 ^ 14) * 2 ^ 15 + 2 * (r % 2 ^ 14) = omega arith in
    let block = xor_block 15 1 (2 * value b + r / 2 ^ 14) 0x4599 (2 * (r % 2 ^ 14)) (omega arith) low in
    let sum : bit_xor generator (2 * (value b * 2 ^ 15 + r))
    ≡ value (b ++ x ∷ []) * 2 ^ 15 + bit_xor (2 * (r % 2 ^ 14)) 0x4599 =
    ap (λ n. bit_xor generator n) doubled ∙ block
    ∙ ap (λ n. n * 2 ^ 15 + bit_xor 0x4599 (2 * (r % 2 ^ 14))) (xor-one (value b) (r / 2 ^ 14) high ∙ turned)
    ∙ ap (λ n. value (b ++ x ∷ []) * 2 ^ 15 + n) (xor_comm 0x4599 (2 * (r % 2 ^ 14))) in
    record {
      fits = xor_lt 15 (2 * (r % 2 ^ 14)) 0x4599 low (omega arith);
      divides = subst IsMultiple sum (IsMultiple-double-add (value b * 2 ^ 15 + r) h.divides);
    }

-- the digits of the register are the CRC sequence
pub Crc_of : (b : List Level) (r : ℕ) → Divided b r → Crc b (bits 15 r)
Crc_of b r h =
    record { count = length-bits 15 r; divides = subst IsMultiple (sym (value-append-bits 15 b r h.fits)) h.divides }

-- a list of levels has one CRC sequence
pub Crc-unique : (b c d : List Level) → Crc b c → Crc b d → c ≡ d
Crc-unique b c d hc hd =
    let mc = subst IsMultiple (value-append b c ∙ ap (λ n. value b * 2 ^ n + value c) hc.count) hc.divides in
    let md = subst IsMultiple (value-append b d ∙ ap (λ n. value b * 2 ^ n + value d) hd.count) hd.divides in
    let lc : value c < 2 ^ 15 = subst (λ n. value c < 2 ^ n) hc.count (value-lt c) in
    let ld : value d < 2 ^ 15 = subst (λ n. value d < 2 ^ n) hd.count (value-lt d) in
    value-injective c d (hc.count ∙ sym hd.count) (multiples_agree (value b) (value c) (value d) lc ld mc md)

-- a register for a list, whatever stands before it
divided_after : (a b : List Level) (r : ℕ) → Divided a r → (q : ℕ) × Divided (a ++ b) q
divided_after a [] r h = (r, let P : List Level → Type 0 = λ l. Divided l r in subst P (sym (append-nil a)) h)
divided_after a (x ∷ b) r h =
    let whole : (a ++ x ∷ []) ++ b ≡ a ++ x ∷ b = append_assoc a (x ∷ []) b in
    let P : List Level → Type 0 = λ l. (q : ℕ) × Divided l q in
    elim (cases_eq (r / 2 ^ 14) (digit x)) [
      | inl same ↦ subst P whole (divided_after (a ++ x ∷ []) b _ (Divided-same a r x h same))
      | inr other ↦ subst P whole (divided_after (a ++ x ∷ []) b _ (Divided-other a r x h other))
    ]

-- every list of levels has exactly one CRC sequence
pub Crc_exists : (b : List Level) → (c : List Level) × Crc b c × ((d : List Level) → Crc b d → d ≡ c)
Crc_exists b =
    let (r, h) = divided_after [] b 0 Divided-nothing in
    let whole = Crc_of b r h in
    (bits 15 r, whole, λ d other. Crc-unique b d (bits 15 r) other whole)
