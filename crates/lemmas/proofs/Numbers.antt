-- Small facts of numbers.
use Rattle.std.proofs.Common.{◌≡◌, ℕ, ◌+◌, ◌<◌, ◌⊎◌, inl, inr, sym, ap, ◌∙◌, bit_xor, arith}
use Rattle.std.proofs.lemmas.Bool.{cases_eq}
use Rattle.std.specs.Int.Bits.{xor_self, xor_zero_l, xor_zero_r, xor_assoc}

-- numbers that differ in no digit are the same
pub same_from_xor : (a b : ℕ) → bit_xor a b ≡ 0 → a ≡ b
same_from_xor a b h =
    sym (xor_zero_r a) ∙ ap (λ x. bit_xor a x) (sym (xor_self b)) ∙ sym (xor_assoc a b b) ∙ ap (λ x. bit_xor x b) h
    ∙ xor_zero_l b

-- one of so many places is the last one, or comes before it
pub earlier_or_last : (i n : ℕ) → i < n + 1 → (i < n) ⊎ (i ≡ n)
earlier_or_last i n h = elim (cases_eq i n) [
  | inl same ↦ inr same
  | inr other ↦ inl (omega (arith, h, other))
]
