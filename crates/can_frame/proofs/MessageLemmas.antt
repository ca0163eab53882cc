-- Bytes with no layout fault are the message of a frame.
use Rattle.std.proofs.Common.{◌≡◌, ◌==◌, ◌+◌, ◌*◌, ◌/◌, ◌%◌, ◌<◌, ℕ, zero, suc, Bool}
use Rattle.std.proofs.Common.{true, false, List, [], ◌∷◌, length, get_or, refl, arith}
use Rattle.std.proofs.lemmas.Bool.{eqb-true, eqb-false}
use Rattle.std.proofs.lemmas.List.Elements.{All-from_get_or}
use Rattle.can_frame.specs.Frame.{IsFrame, id_limit, data_count}
use Rattle.can_frame.specs.Message.{bit, IsMessage}
use Rattle.can_frame.specs.Layout.{said_ext, said_rtr, said_dlc, head_count, spare_of}
use Rattle.can_frame.specs.Layout.{second_rtr_of, IsSized, UnusedAreZero, RtrAgrees}

-- a number below 2 is the bit that says whether it is 1
bit-is_one : (x : ℕ) → x < 2 → bit (x == 1) ≡ x
bit-is_one zero h = refl
bit-is_one (suc zero) h = refl
bit-is_one (suc (suc x)) h = absurd (omega arith)

-- a frame with these values, whose identifier and DLC are small enough
is_frame : (ext : Bool) (id : ℕ) (rtr : Bool) (dlc : ℕ) (rest : List ℕ) → id < id_limit ext → dlc < 16 →
    length rest ≡ data_count rtr dlc → ((i : ℕ) → get_or rest i 0 < 256) →
    IsFrame (record { ext = ext; id = id; rtr = rtr; dlc = dlc; bytes = rest })
is_frame ext id rtr dlc rest few small count fit = record {
  id = few;
  dlc = small;
  count = count;
  bytes = All-from_get_or (λ x. x < 256) rest 0 (λ i _. fit i);
}

-- bytes in the layout of a standard frame
standard : (a b c : ℕ) (rest : List ℕ) → a < 256 → b < 256 → c < 256 → ((i : ℕ) → get_or rest i 0 < 256) →
    a / 128 % 2 < 1 → length rest ≡ data_count (a / 64 % 2 == 1) (a % 16) →
    a / 16 % 4 ≡ 0 → c % 16 ≡ 0 → c / 16 % 2 ≡ bit (a / 64 % 2 == 1) → IsMessage (a ∷ b ∷ c ∷ rest)
standard a b c rest ha hb hc hrest short count unused spare agrees =
    let r : bit (a / 64 % 2 == 1) ≡ a / 64 % 2 = bit-is_one (a / 64 % 2) (omega arith) in
    let first : a ≡ 64 * bit (a / 64 % 2 == 1) + a % 16 = omega (arith, r) in
    let second : b ≡ (8 * b + c / 32) / 8 = omega arith in
    let third : c ≡ 32 * ((8 * b + c / 32) % 8) + 16 * bit (a / 64 % 2 == 1) = omega (arith, agrees) in (
      record { ext = false; id = 8 * b + c / 32; rtr = a / 64 % 2 == 1; dlc = a % 16; bytes = rest },
      is_frame false (8 * b + c / 32) (a / 64 % 2 == 1) (a % 16) rest (omega arith) (omega arith) count hrest,
      cc,
    )

-- bytes in the layout of an extended frame
extended : (a b c d e : ℕ) (rest : List ℕ) → a < 256 → b < 256 → c < 256 → d < 256 → e < 256 →
    ((i : ℕ) → get_or rest i 0 < 256) →
    a / 128 % 2 ≡ 1 → length rest ≡ data_count (a / 64 % 2 == 1) (a % 16) →
    a / 16 % 4 ≡ 0 → e % 4 ≡ 0 → e / 4 % 2 ≡ bit (a / 64 % 2 == 1) → IsMessage (a ∷ b ∷ c ∷ d ∷ e ∷ rest)
extended a b c d e rest ha hb hc hd he hrest long count unused spare agrees =
    let r : bit (a / 64 % 2 == 1) ≡ a / 64 % 2 = bit-is_one (a / 64 % 2) (omega arith) in
    let first : a ≡ 128 + 64 * bit (a / 64 % 2 == 1) + a % 16 = omega (arith, r) in
    let second : b ≡ (2097152 * b + 8192 * c + 32 * d + e / 8) / 2097152 = omega arith in
    let third : c ≡ (2097152 * b + 8192 * c + 32 * d + e / 8) / 8192 % 256 = omega arith in
    let fourth : d ≡ (2097152 * b + 8192 * c + 32 * d + e / 8) / 32 % 256 = omega arith in
    let fifth : e ≡ 8 * ((2097152 * b + 8192 * c + 32 * d + e / 8) % 32) + 4 * bit (a / 64 % 2 == 1) =
    omega (arith, agrees) in (
      record {
        ext = true;
        id = 2097152 * b + 8192 * c + 32 * d + e / 8;
        rtr = a / 64 % 2 == 1;
        dlc = a % 16;
        bytes = rest;
      },
      is_frame true (2097152 * b + 8192 * c + 32 * d + e / 8) (a / 64 % 2 == 1) (a % 16) rest (omega arith)
          (omega arith) count hrest,
      cc,
    )

-- the same, by the format that the first byte says
by_format : (ext : Bool) (m : List ℕ) → ((i : ℕ) → get_or m i 0 < 256) → said_ext m ≡ ext →
    length m ≡ head_count ext + data_count (said_rtr m) (said_dlc m) → get_or m 0 0 / 16 % 4 ≡ 0 →
    spare_of ext m ≡ 0 → second_rtr_of ext m ≡ bit (said_rtr m) → IsMessage m
by_format false (a ∷ b ∷ c ∷ rest) fit format count unused spare agrees =
    standard a b c rest (fit 0) (fit 1) (fit 2) (λ i. fit (suc (suc (suc i)))) (omega (arith, eqb-false _ _ format))
    (omega arith) unused spare agrees
by_format true (a ∷ b ∷ c ∷ d ∷ e ∷ rest) fit format count unused spare agrees =
    extended a b c d e rest (fit 0) (fit 1) (fit 2) (fit 3) (fit 4) (λ i. fit (suc (suc (suc (suc (suc i))))))
    (eqb-true _ _ format) (omega arith) unused spare agrees
by_format false [] fit format count unused spare agrees = absurd (omega arith)
by_format false (a ∷ []) fit format count unused spare agrees = absurd (omega arith)
by_format false (a ∷ b ∷ []) fit format count unused spare agrees = absurd (omega arith)
by_format true [] fit format count unused spare agrees = absurd (omega arith)
by_format true (a ∷ []) fit format count unused spare agrees = absurd (omega arith)
by_format true (a ∷ b ∷ []) fit format count unused spare agrees = absurd (omega arith)
by_format true (a ∷ b ∷ c ∷ []) fit format count unused spare agrees = absurd (omega arith)
by_format true (a ∷ b ∷ c ∷ d ∷ []) fit format count unused spare agrees = absurd (omega arith)

-- bytes that have their length, with no unused bit at 1 and equal RTR bits, are a message
pub is_message : (m : List ℕ) → ((i : ℕ) → get_or m i 0 < 256) → IsSized m → UnusedAreZero m → RtrAgrees m → IsMessage m
is_message m fit sized unused agrees = by_format (said_ext m) m fit refl sized unused.first unused.last agrees

-- three zeros are bytes
zeros : (i : ℕ) → get_or (0 ∷ 0 ∷ 0 ∷ []) i 0 < 256
zeros zero = omega arith
zeros (suc zero) = omega arith
zeros (suc (suc zero)) = omega arith
zeros (suc (suc (suc i))) = omega arith

-- the message of the standard data frame with identifier 0 and no data
pub least : IsMessage (0 ∷ 0 ∷ 0 ∷ [])
least = is_message (0 ∷ 0 ∷ 0 ∷ []) (λ i. zeros i) refl (record { first = refl; last = refl }) refl
