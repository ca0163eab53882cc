-- How many levels two packed bodies have in common, told by numbers whose highest digits the levels are.
use Rattle.std.proofs.Common.{◌≡◌, ◌+◌, ◌-◌, ◌*◌, ◌/◌, ◌%◌, ◌^◌, ◌<◌, ◌≤◌, ◌==◌, ℕ, zero, suc, inl, inr}
use Rattle.std.proofs.Common.{Option, Some, None, ap, sym, subst, ◌∙◌, arith}
use Rattle.std.proofs.Math.Nat.{div-eq_of_lt}
use Rattle.std.proofs.lemmas.Bool.{cases_lt}
use Rattle.std.proofs.lemmas.Nat.{shr-shr}
use Rattle.lemmas.proofs.Numbers.{same_from_xor}
use Rattle.can_levels.specs.declared.level.Level.{Level}
use Rattle.can_bits.specs.declared.sent_body.SentBody.{SentBody}
use Rattle.can_levels.specs.Digits.{digit, level_of}
use Rattle.can_bits.specs.Sending.{AgreeFor, BothHave, packed_level}
use Rattle.can_levels.proofs.Values.{level-digit}
use native.Mathlib.Nat.{div-lt_iff_lt-mul, lt_of_lt_of_le, pow-suc}
use lib.Bits.{bit_xor, xor_lt, xor_shr, xor_self}
use lib.Count.{count_leading_zeros, leading_length}
use lib.Pow.{pow_mono, pow_pos}

-- the level that a digit of a number is
abbrev pub level_in : ℕ → ℕ → Level
level_in x place = level_of (x / 2 ^ (127 - place) % 2 == 1)

-- the levels of a body are the highest of 128 digits of a number
abbrev pub IsTopOf : SentBody → ℕ → Type 0
IsTopOf s x = (place : ℕ) → place < s.length → s.length ≤ 128 → packed_level s place ≡ Some (level_in x place)

-- the digit of a level that is there
abbrev digit_in : Option Level → ℕ
digit_in (Some level) = digit level
digit_in None = 0

-- what more digits write, by what one less write and the last one
with_last : (x n : ℕ) → n < 128 → x / 2 ^ (127 - n) / 2 ≡ x / 2 ^ (128 - n)
with_last x n room = shr-shr x (127 - n) 1 ∙ ap (λ k. x / 2 ^ k) (omega (arith, room))

-- bodies that agree at so many places write the same number there
same_front : (a b : SentBody) (x y n : ℕ) → IsTopOf a x → IsTopOf b y → x < 2 ^ 128 → y < 2 ^ 128 → BothHave n a b →
    AgreeFor n a b → x / 2 ^ (128 - n) ≡ y / 2 ^ (128 - n)
same_front a b x y zero top_a top_b room_x room_y both agree = div-eq_of_lt room_x ∙ sym (div-eq_of_lt room_y)
same_front a b x y (suc n) top_a top_b room_x room_y both agree =
    let one = both.one in
    let other = both.other in
    let fits = both.one_fits in
    let fits_too = both.other_fits in
    let shorter : BothHave n a b = record {
      one = omega (arith, one);
      other = omega (arith, other);
      one_fits = fits;
      other_fits = fits_too;
    } in
    let before = same_front a b x y n top_a top_b room_x room_y shorter (λ place h. agree place (omega (arith, h))) in
    let here : Some (level_in x n) ≡ Some (level_in y n) =
    sym (top_a n (omega (arith, one)) fits) ∙ agree n (omega arith) ∙ top_b n (omega (arith, other)) fits_too in
    let qx = x / 2 ^ (127 - n) in
    let qy = y / 2 ^ (127 - n) in
    let last : qx % 2 ≡ qy % 2 =
    sym (level-digit (qx % 2) (omega arith)) ∙ ap digit_in here ∙ level-digit (qy % 2) (omega arith) in
    let half_x = with_last x n (omega (arith, one, fits)) in
    let half_y = with_last y n (omega (arith, one, fits)) in
    let same : qx ≡ qy = omega (arith, before, last, half_x, half_y) in
    let place : 128 - suc n ≡ 127 - n = omega arith in
    ap (λ k. x / 2 ^ k) place ∙ same ∙ ap (λ k. y / 2 ^ k) (sym place)

-- so the digits in which both numbers differ begin with so many zeros
pub zeros_of_agreement : (a b : SentBody) (x y n : ℕ) → IsTopOf a x → IsTopOf b y → x < 2 ^ 128 → y < 2 ^ 128 →
    BothHave n a b → AgreeFor n a b → n ≤ count_leading_zeros 128 (bit_xor x y)
zeros_of_agreement a b x y n top_a top_b room_x room_y both agree =
    let k = 128 - n in
    let z = bit_xor x y in
    let same = same_front a b x y n top_a top_b room_x room_y both agree in
    let none : z / 2 ^ k ≡ 0 = xor_shr x y k ∙ ap (λ m. bit_xor m (y / 2 ^ k)) same ∙ xor_self (y / 2 ^ k) in
    let below = (div-lt_iff_lt-mul (pow_pos k)).0 (subst (λ m. m < 1) (sym none) (omega arith)) in
    let t = leading_length 128 z (xor_lt 128 x y room_x room_y) in
    let count = t.1 in
    let least = t.3 in
    elim (cases_lt k t.0) [
      | inl longer ↦
          let more : 2 ^ suc k ≤ 2 ^ t.0 = pow_mono (omega (arith, longer)) in
          let twice : 2 ^ suc k ≡ 2 ^ k * 2 = pow-suc 2 k in
          absurd (omega (arith, below, more, twice, least))
      | inr within ↦ omega (arith, count, within)
    ]

-- bodies agree at so many places where the digits in which both numbers differ begin with so many zeros
pub agreement_of_zeros : (a b : SentBody) (x y n : ℕ) → IsTopOf a x → IsTopOf b y → x < 2 ^ 128 → y < 2 ^ 128 →
    BothHave n a b → n ≤ count_leading_zeros 128 (bit_xor x y) → AgreeFor n a b
agreement_of_zeros a b x y n top_a top_b room_x room_y both zeros place before =
    let k = 128 - n in
    let z = bit_xor x y in
    let one = both.one in
    let other = both.other in
    let fits = both.one_fits in
    let t = leading_length 128 z (xor_lt 128 x y room_x room_y) in
    let count = t.1 in
    let below : z < 2 ^ k = lt_of_lt_of_le t.2 (pow_mono (omega (arith, count, zeros))) in
    let same : x / 2 ^ k ≡ y / 2 ^ k =
    same_from_xor (x / 2 ^ k) (y / 2 ^ k) (sym (xor_shr x y k) ∙ div-eq_of_lt below) in
    let j = n - 1 - place in
    let place_is : k + j ≡ 127 - place = omega (arith, before, one, fits) in
    let read : (v : ℕ) → v / 2 ^ (127 - place) ≡ v / 2 ^ k / 2 ^ j =
    λ v. ap (λ m. v / 2 ^ m) (sym place_is) ∙ sym (shr-shr v k j) in
    let level : ℕ → Option Level = λ v. Some (level_of (v % 2 == 1)) in
    top_a place (omega (arith, before, one)) fits
    ∙ ap level (read x ∙ ap (λ q. q / 2 ^ j) same ∙ sym (read y))
    ∙ sym (top_b place (omega (arith, before, other)) both.other_fits)
