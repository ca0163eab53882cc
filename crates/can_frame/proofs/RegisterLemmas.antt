-- A register is compared with a number all at once, which says the same as bit by bit.
use Rattle.std.proofs.Common.{◌≡◌, ◌+◌, ◌-◌, ◌/◌, ◌%◌, ◌^◌, ◌<◌, ◌≤◌, ◌↔◌, IsTrue, ℕ, ◌⊎◌}
use Rattle.std.proofs.Common.{Bool, true, false, inl, inr, min, nat_eq, bit_and, bit_xor, refl, sym, ◌∙◌, ap, arith, w8}
use Rattle.std.specs.Int.{bit_at}
use Rattle.std.proofs.lemmas.Bool.{cases_lt, eqb-true, eq-eqb}
use Rattle.std.proofs.lemmas.Nat.{shr-shr}
use Rattle.std.proofs.lemmas.Nat.Bits.{bit_at_and, bit_at_xor, bit_at_not, bit_at_ones}
use Rattle.std.proofs.lemmas.Nat.Bits.{bit_at_ones_above, bit_at-lt, bit_at-zero, same_from_bits}
use Rattle.can_frame.specs.Filter.{Matches}
use Rattle.can_frame.specs.Message.{bit}

-- what is 1 as a bit is true
pub is_true : (b : Bool) → 1 ≤ bit b → IsTrue b
is_true true h = refl
is_true false h = absurd (omega arith)

-- the bits, among the lowest `count`, in which a number isn't the code from bit `low` on and is compared with it
abbrev pub differing : ℕ → ℕ → ℕ → ℕ → ℕ → ℕ
differing code mask low count number =
    bit_and (bit_and (bit_xor (code / 2 ^ low) number) ((255 - mask) / 2 ^ low)) (2 ^ count - 1)

-- bit i of a number without its lowest `low` bits
bit_at-shifted : (n low i : ℕ) → bit_at (n / 2 ^ low) i ≡ bit_at n (low + i)
bit_at-shifted n low i = ap (λ x. x % 2) (shr-shr n low i)

module _ (code mask low count number : ℕ) (room : low + count ≤ 8) (fits : mask < 256) where
  -- bit i of the difference
  abbrev differs : ℕ → ℕ
  differs i = bit_at (differing code mask low count number) i

  -- a bit from `count` on never differs
  differs-above : (i : ℕ) → count ≤ i → differs i ≡ 0
  differs-above i above =
      let both = bit_at_and (bit_and (bit_xor (code / 2 ^ low) number) ((255 - mask) / 2 ^ low)) (2 ^ count - 1) i in
      omega (arith, both, bit_at_ones_above count i above)

  -- a bit below `count` differs where the code bit isn't the number's and the mask bit is 0
  differs-below : (i : ℕ) → i < count →
      differs i ≡ min ((bit_at code (low + i) + bit_at number i) % 2) (1 - bit_at mask (low + i))
  differs-below i within =
      let all = bit_at_and (bit_and (bit_xor (code / 2 ^ low) number) ((255 - mask) / 2 ^ low)) (2 ^ count - 1) i in
      let two = bit_at_and (bit_xor (code / 2 ^ low) number) ((255 - mask) / 2 ^ low) i in
      let sum = bit_at_xor (code / 2 ^ low) number i in
      let shifted = bit_at-shifted code low i in
      let unmasked = bit_at-shifted (255 - mask) low i ∙ bit_at_not w8 mask (low + i) fits (omega arith) in
      let code_bit = bit_at-lt code (low + i) in
      let number_bit = bit_at-lt number i in
      let mask_bit = bit_at-lt mask (low + i) in
      omega (arith, all, two, sum, shifted, unmasked, bit_at_ones count i within, code_bit, number_bit, mask_bit)

  -- where no bit differs the register matches
  matches : differing code mask low count number ≡ 0 → Matches code mask low count number
  matches none i within compared =
      let here = ap (λ x. bit_at x i) none ∙ bit_at-zero i in
      omega (arith, here, differs-below i within, compared, bit_at-lt code (low + i), bit_at-lt number i)

  -- where the register matches no bit below `count` differs, whether it is compared or not
  same-below : Matches code mask low count number → (i : ℕ) → i < count →
      (bit_at mask (low + i) < 1) ⊎ (1 ≤ bit_at mask (low + i)) → differs i ≡ 0
  same-below same i within (inl compared) =
      omega (arith, differs-below i within, same i within (omega (arith, compared)))
  same-below same i within (inr masked) = omega (arith, differs-below i within, masked)

  -- where the register matches no bit differs
  same-at : Matches code mask low count number → (i : ℕ) → (i < count) ⊎ (count ≤ i) → differs i ≡ 0
  same-at same i (inl within) = same-below same i within (cases_lt (bit_at mask (low + i)) 1)
  same-at same i (inr above) = differs-above i above

  -- the register matches exactly where no bit differs
  pub matches_by_number : IsTrue (nat_eq (differing code mask low count number) 0) ↔ Matches code mask low count number
  matches_by_number = (
    λ t. matches (eqb-true _ _ t),
    λ same. eq-eqb _ _ (same_from_bits _ 0 (λ i. same-at same i (cases_lt i count) ∙ sym (bit_at-zero i))),
  )
