-- The levels of bytes.
use Rattle.std.proofs.Common.{◌≡◌, ◌*◌, ◌^◌, ◌<◌, ℕ, zero, suc, List, [], ◌∷◌, ◌++◌}
use Rattle.std.proofs.Common.{length, take, drop, refl, ap, sym, subst, ◌∙◌, arith, All}
use Rattle.std.specs.List.{flat_map}
use Rattle.std.proofs.lemmas.List.{length-append, length-take-le, length-drop, take-append-drop, nil_from_length}
use Rattle.std.proofs.lemmas.List.Elements.{All-nil, All-cons}
use Rattle.can_levels.specs.declared.level.Level.{Level}
use Rattle.can_levels.specs.Digits.{bits, value}
use Rattle.can_levels.proofs.Values.{length-bits, bits-value, bits-injective, value-lt}
use Rattle.lemmas.proofs.Lists.{append-split}

-- eight levels a byte
pub length_bytes : (bytes : List ℕ) → length (flat_map (bits 8) bytes) ≡ 8 * length bytes
length_bytes [] = refl
length_bytes (byte ∷ bytes) =
    omega (arith, length-append (bits 8 byte) (flat_map (bits 8) bytes), length-bits 8 byte, length_bytes bytes)

-- as many bytes with the same levels are the same bytes
pub bytes-injective : (a b : List ℕ) → All (λ byte. byte < 256) a → All (λ byte. byte < 256) b → length a ≡ length b →
    flat_map (bits 8) a ≡ flat_map (bits 8) b → a ≡ b
bytes-injective [] [] ha hb n h = refl
bytes-injective [] (y ∷ b) ha hb n h = absurd (omega arith)
bytes-injective (x ∷ a) [] ha hb n h = absurd (omega arith)
bytes-injective (x ∷ a) (y ∷ b) ha hb n h =
    let (first, rest) =
    append-split (bits 8 x) (flat_map (bits 8) a) (bits 8 y) (flat_map (bits 8) b)
    (length-bits 8 x ∙ sym (length-bits 8 y)) h in
    let same : x ≡ y = bits-injective 8 x y (ha 0 0 (omega arith)) (hb 0 0 (omega arith)) first in
    let others : a ≡ b =
    bytes-injective a b (λ k d below. ha (suc k) d (omega arith)) (λ k d below. hb (suc k) d (omega arith))
    (omega arith) rest in
    cc

-- these bytes are written by these levels
pub record Writes (bytes : List ℕ) (l : List Level) : Type 0 where
  pub levels : flat_map (bits 8) bytes ≡ l
  pub small : All (λ byte. byte < 256) bytes

-- levels in groups of eight are those of bytes
pub bytes_of : (n : ℕ) (l : List Level) → length l ≡ 8 * n → (bytes : List ℕ) × (length bytes ≡ n) × Writes bytes l
bytes_of zero l h =
    ([], refl, record { levels = sym (nil_from_length l (omega arith)); small = All-nil (λ byte. byte < 256) })
bytes_of (suc n) l h =
    let first = take 8 l in
    let count : length first ≡ 8 = length-take-le 8 l (omega arith) in
    let (bytes, many, rest) = bytes_of n (drop 8 l) (omega (arith, length-drop 8 l)) in
    let small : value first < 256 = subst (λ k. value first < 2 ^ k) count (value-lt first) in (
      value first ∷ bytes,
      omega (arith, many),
      record {
        levels = ap (λ a. a ++ flat_map (bits 8) bytes) (bits-value 8 first count) ∙ ap (λ b. first ++ b) rest.levels
            ∙ take-append-drop 8 l;
        small = All-cons (λ byte. byte < 256) (value first) bytes small rest.small;
      },
    )
