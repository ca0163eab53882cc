-- The levels of an arbitration field, place by place.
use Rattle.std.proofs.Common.{◌≡◌, ◌==◌, ◌+◌, ◌-◌, ◌/◌, ◌%◌, ◌^◌, ◌<◌, ◌≤◌, ℕ, zero, suc, Bool, true, false}
use Rattle.std.proofs.Common.{List, [], ◌∷◌, ◌++◌, length, Some, refl, ap, sym, ◌∙◌, arith, append_assoc}
use Rattle.std.specs.List.{slice_get, flat_map}
use Rattle.std.proofs.lemmas.Nat.{shr-shr}
use Rattle.std.proofs.lemmas.List.{take_at, length-append}
use Rattle.can_frame.specs.Frame.{FrameValue}
use Rattle.can_levels.specs.declared.level.Level.{Level}
use Rattle.can_levels.specs.declared.level.Level.TheVariants.{Dominant, Recessive}
use Rattle.can_levels.specs.Digits.{bits, level_of}
use Rattle.can_levels.specs.Body.{head_bits}
use Rattle.can_levels.proofs.Values.{length-bits}
use Rattle.can_node_rules.specs.Contending.{field_count, arbitration_field}

-- a place in the first of two lists
pub get-append_left : {A : Type 0} (a b : List A) (k : ℕ) → k < length a → slice_get (a ++ b) k ≡ slice_get a k
get-append_left [] b k h = absurd (omega arith)
get-append_left (x ∷ a) b zero h = refl
get-append_left (x ∷ a) b (suc k) h = get-append_left a b k (omega arith)

-- a place in the second of them
pub get-append_right : {A : Type 0} (a b : List A) (n k j : ℕ) → length a ≡ n → k ≡ n + j →
    slice_get (a ++ b) k ≡ slice_get b j
get-append_right [] b n k j h e = let same : k ≡ j = omega arith in ap (λ i. slice_get b i) same
get-append_right (x ∷ a) b n zero j h e = absurd (omega arith)
get-append_right (x ∷ a) b n (suc k) j h e = get-append_right a b (length a) k j refl (omega arith)

-- a digit of a number, from the most significant on
pub bits_at : (n x k m : ℕ) → k + m + 1 ≡ n → slice_get (bits n x) k ≡ Some (level_of (x / 2 ^ m % 2 == 1))
unfolding bits
bits_at zero x k m e = absurd (omega arith)
bits_at (suc n) x k zero e =
    let number : x ≡ x / 2 ^ 0 = omega arith in
    get-append_right (bits n (x / 2)) (level_of (x % 2 == 1) ∷ []) n k 0 (length-bits n (x / 2)) (omega arith)
    ∙ ap (λ y. Some (level_of (y % 2 == 1))) number
bits_at (suc n) x k (suc m) e =
    let power : 1 + m ≡ suc m = omega arith in
    let half : x / 2 / 2 ^ m ≡ x / 2 ^ suc m = shr-shr x 1 m ∙ ap (λ j. x / 2 ^ j) power in
    get-append_left (bits n (x / 2)) (level_of (x % 2 == 1) ∷ []) k (omega (arith, length-bits n (x / 2)))
    ∙ bits_at n (x / 2) k m (omega arith) ∙ ap (λ y. Some (level_of (y % 2 == 1))) half

-- the arbitration field of a standard frame
abbrev pub standard_field : ℕ → Bool → List Level
standard_field id rtr = bits 11 id ++ level_of rtr ∷ Dominant ∷ []

-- the arbitration field of an extended frame
abbrev pub extended_field : ℕ → Bool → List Level
extended_field id rtr = bits 11 (id / 2 ^ 18) ++ Recessive ∷ Recessive ∷ (bits 18 id ++ level_of rtr ∷ [])

-- by the format
abbrev pub field_by : Bool → ℕ → Bool → List Level
field_by false id rtr = standard_field id rtr
field_by true id rtr = extended_field id rtr

-- how many levels they have
pub length_standard : (id : ℕ) (rtr : Bool) → length (standard_field id rtr) ≡ 13
length_standard id rtr = omega (arith, length-append (bits 11 id) (level_of rtr ∷ Dominant ∷ []), length-bits 11 id)

pub length_extended : (id : ℕ) (rtr : Bool) → length (extended_field id rtr) ≡ 32
length_extended id rtr =
    let high : List Level = bits 11 (id / 2 ^ 18) in
    let low : List Level = bits 18 id ++ level_of rtr ∷ [] in
    let count : length low ≡ 19 = omega (arith, length-append (bits 18 id) (level_of rtr ∷ []), length-bits 18 id) in
    omega (arith, length-append high (Recessive ∷ Recessive ∷ low), length-bits 11 (id / 2 ^ 18))

-- a body begins with SOF and that field
front_is : (ext : Bool) (id : ℕ) (rtr : Bool) (rest : List Level) →
    (more : List Level) × (head_bits ext id rtr Recessive Dominant Dominant ++ rest
    ≡ Dominant ∷ (field_by ext id rtr ++ more))
front_is false id rtr rest = (
  Dominant ∷ rest,
  ap (λ l. Dominant ∷ l)
      (append_assoc (bits 11 id) (level_of rtr ∷ Dominant ∷ Dominant ∷ []) rest
      ∙ sym (append_assoc (bits 11 id) (level_of rtr ∷ Dominant ∷ []) (Dominant ∷ rest))),
)
front_is true id rtr rest =
    let high : List Level = bits 11 (id / 2 ^ 18) in
    let low : List Level = bits 18 id in
    let last : List Level = level_of rtr ∷ [] in (
      Dominant ∷ Dominant ∷ rest,
      ap (λ l. Dominant ∷ l)
          (append_assoc high (Recessive ∷ Recessive ∷ (low ++ level_of rtr ∷ Dominant ∷ Dominant ∷ [])) rest
          ∙ ap (λ l. high ++ Recessive ∷ Recessive ∷ l)
          (append_assoc low (level_of rtr ∷ Dominant ∷ Dominant ∷ []) rest
          ∙ sym (append_assoc low last (Dominant ∷ Dominant ∷ rest)))
          ∙ sym (append_assoc high (Recessive ∷ Recessive ∷ (low ++ last)) (Dominant ∷ Dominant ∷ rest))),
    )

-- they are as long as said
count_is : (ext : Bool) (id : ℕ) (rtr : Bool) → length (field_by ext id rtr) ≡ field_count ext
count_is false id rtr = length_standard id rtr
count_is true id rtr = length_extended id rtr

-- the arbitration field of a frame
pub field_is : (f : FrameValue) → arbitration_field f ≡ field_by f.ext f.id f.rtr
field_is f =
    let rest : List Level = bits 4 f.dlc ++ flat_map (bits 8) f.bytes in
    let front = front_is f.ext f.id f.rtr rest in
    rw front.1 (take_at (field_by f.ext f.id f.rtr) front.0 (field_count f.ext) (count_is f.ext f.id f.rtr))

-- what stands at each place of a standard frame's field
pub standard_id : (id : ℕ) (rtr : Bool) (k : ℕ) → k ≤ 10 →
    slice_get (standard_field id rtr) k ≡ Some (level_of (id / 2 ^ (10 - k) % 2 == 1))
standard_id id rtr k h =
    get-append_left (bits 11 id) (level_of rtr ∷ Dominant ∷ []) k (omega (arith, length-bits 11 id))
    ∙ bits_at 11 id k (10 - k) (omega arith)

pub standard_last : (id : ℕ) (rtr : Bool) (k j : ℕ) → k ≡ 11 + j →
    slice_get (standard_field id rtr) k ≡ slice_get (level_of rtr ∷ Dominant ∷ []) j
standard_last id rtr k j e = get-append_right (bits 11 id) (level_of rtr ∷ Dominant ∷ []) 11 k j (length-bits 11 id) e

-- and of an extended frame's
pub extended_high : (id : ℕ) (rtr : Bool) (k : ℕ) → k ≤ 10 →
    slice_get (extended_field id rtr) k ≡ Some (level_of (id / 2 ^ 18 / 2 ^ (10 - k) % 2 == 1))
extended_high id rtr k h =
    let high : List Level = bits 11 (id / 2 ^ 18) in
    get-append_left high (Recessive ∷ Recessive ∷ (bits 18 id ++ level_of rtr ∷ [])) k
    (omega (arith, length-bits 11 (id / 2 ^ 18)))
    ∙ bits_at 11 (id / 2 ^ 18) k (10 - k) (omega arith)

pub extended_rest : (id : ℕ) (rtr : Bool) (k j : ℕ) → k ≡ 11 + j →
    slice_get (extended_field id rtr) k ≡ slice_get (Recessive ∷ Recessive ∷ (bits 18 id ++ level_of rtr ∷ [])) j
extended_rest id rtr k j e =
    get-append_right (bits 11 (id / 2 ^ 18)) (Recessive ∷ Recessive ∷ (bits 18 id ++ level_of rtr ∷ [])) 11 k j
    (length-bits 11 (id / 2 ^ 18)) e

pub extended_low : (id : ℕ) (rtr : Bool) (k : ℕ) → 13 ≤ k → k ≤ 30 →
    slice_get (extended_field id rtr) k ≡ Some (level_of (id / 2 ^ (30 - k) % 2 == 1))
extended_low id rtr k low high =
    extended_rest id rtr k (2 + (k - 13)) (omega arith)
    ∙ get-append_right (Recessive ∷ Recessive ∷ []) (bits 18 id ++ level_of rtr ∷ []) 2 (2 + (k - 13)) (k - 13) refl
    refl
    ∙ get-append_left (bits 18 id) (level_of rtr ∷ []) (k - 13) (omega (arith, length-bits 18 id))
    ∙ bits_at 18 id (k - 13) (30 - k) (omega arith)

pub extended_last : (id : ℕ) (rtr : Bool) → slice_get (extended_field id rtr) 31 ≡ Some (level_of rtr)
extended_last id rtr =
    extended_rest id rtr 31 20 refl
    ∙ get-append_right (Recessive ∷ Recessive ∷ []) (bits 18 id ++ level_of rtr ∷ []) 2 20 18 refl refl
    ∙ get-append_right (bits 18 id) (level_of rtr ∷ []) 18 18 0 (length-bits 18 id) refl

-- an arbitration field has at most 32 levels
count_most : (ext : Bool) → field_count ext ≤ 32
count_most false = omega arith
count_most true = omega arith

pub length_field : (f : FrameValue) → length (arbitration_field f) ≤ 32
length_field f = omega (arith, ap length (field_is f), count_is f.ext f.id f.rtr, count_most f.ext)
