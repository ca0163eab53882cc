-- The frame of the levels that have come.
use Rattle.std.proofs.Common.{◌≡◌, ◌+◌, ◌-◌, ◌*◌, ◌^◌, ◌<◌, ◌≤◌, ℕ, Bool, true, false, List, [], ◌∷◌, ◌++◌}
use Rattle.std.proofs.Common.{length, take, drop, slice_range, ap, sym, subst, ◌∙◌, arith, append_assoc, All}
use Rattle.std.proofs.lemmas.List.{append-nil, length-append}
use Rattle.std.proofs.lemmas.List.Folds.{drop_split}
use Rattle.std.proofs.lemmas.List.Elements.{All-nil, All-cons, All-append}
use Rattle.std.proofs.lemmas.Grind.{flat_map-append}
use Rattle.can_frame.specs.Frame.{FrameValue, data_count}
use Rattle.can_levels.specs.declared.level.Level.{Level}
use Rattle.can_levels.specs.Digits.{bits, value}
use Rattle.can_levels.specs.DataBits.{data_place, says_bytes, data_levels}
use Rattle.can_levels.specs.Spelling.{Spells}
use Rattle.lemmas.proofs.Lists.{append-split, length_range}
use Rattle.can_levels.proofs.Values.{bits-value, value-lt}
use Rattle.can_levels.proofs.Whole.Bytes.{Writes}
use Rattle.can_levels.proofs.SaidCounts.{whole_of}
use Rattle.can_levels.proofs.Whole.Decoding.{said_frame, spelled}
use Rattle.can_levels.proofs.Whole.OneSpelling.{Spells-unique}

-- two parts of a list that meet
range_join : {A : Type 0} (w : List A) (a b c : ℕ) → a ≤ b → b ≤ c → c ≤ length w →
    slice_range w a c ≡ slice_range w a b ++ slice_range w b c
range_join w a b c ab bc end =
    let both : slice_range w a c ++ drop c w ≡ (slice_range w a b ++ slice_range w b c) ++ drop c w =
    sym (drop_split w a c (omega arith)) ∙ drop_split w a b ab ∙ ap (λ l. slice_range w a b ++ l) (drop_split w b c bc)
    ∙ sym (append_assoc (slice_range w a b) (slice_range w b c) (drop c w)) in
    let counts : length (slice_range w a c) ≡ length (slice_range w a b ++ slice_range w b c) =
    omega (
      arith,
      length_range w a c (omega arith) end,
      length-append (slice_range w a b) (slice_range w b c),
      length_range w a b ab (omega arith),
      length_range w b c bc end,
    ) in
    (append-split (slice_range w a c) (drop c w) (slice_range w a b ++ slice_range w b c) (drop c w) counts both).0

-- the levels of the first k bytes
abbrev pub first_levels : List Level → ℕ → List Level
first_levels w k = slice_range w (data_place w) (data_place w + 8 * k)

-- none of them
pub no_bytes : (w : List Level) → Writes [] (first_levels w 0)
no_bytes w =
    let none : data_place w + 8 * 0 - data_place w ≡ 0 = omega arith in
    record { levels = sym (ap (λ n. take n (drop (data_place w) w)) none); small = All-nil (λ byte. byte < 256) }

-- a byte more
pub byte_more : (w : List Level) (bytes : List ℕ) (k byte : ℕ) → data_place w + 8 * k + 8 ≤ length w →
    Writes bytes (first_levels w k) →
    byte ≡ value (slice_range w (data_place w + 8 * k) (data_place w + 8 * k + 8)) →
    Writes (bytes ++ byte ∷ []) (first_levels w (k + 1))
byte_more w bytes k byte long before held =
    let p = data_place w in
    let start = p + 8 * k in
    let group : List Level = slice_range w start (start + 8) in
    let count : length group ≡ 8 = length_range w start (start + 8) (omega arith) long ∙ omega arith in
    let small : byte < 256 = let most : value group < 2 ^ 8 =
    subst (λ n. value group < 2 ^ n) count (value-lt group) in omega (arith, held) in
    let digits : bits 8 byte ≡ group = ap (λ n. bits 8 n) held ∙ bits-value 8 group count in
    let end : start + 8 ≡ p + 8 * (k + 1) = omega arith in
    let one : All (λ b. b < 256) (byte ∷ []) = All-cons (λ b. b < 256) byte [] small (All-nil (λ b. b < 256)) in
    record {
      levels = flat_map-append (bits 8) bytes (byte ∷ []) ∙ ap (λ t. t ++ (bits 8 byte ++ [])) before.levels
          ∙ ap (λ t. slice_range w p start ++ t) (append-nil (bits 8 byte) ∙ digits)
          ∙ sym (range_join w p start (start + 8) (omega arith) (omega arith) long) ∙ ap (λ n. slice_range w p n) end;
      small = All-append (λ b. b < 256) bytes (byte ∷ []) before.small one;
    }

-- what all levels say is the frame that they spell
pub said_is : (f : FrameValue) (w b c : List Level) (bytes : List ℕ) → Spells f b c w → Writes bytes (data_levels w) →
    length bytes ≡ says_bytes w →
    said_frame w bytes ≡ f
said_is f w b c bytes spells written count =
    let (d, e, told) = spelled w bytes (whole_of f b c w spells) count written in
    (Spells-unique (said_frame w bytes) f d e b c w told spells).0

-- a frame has 8 data bytes at most
pub count_most : (rtr : Bool) (dlc : ℕ) → data_count rtr dlc ≤ 8
count_most false dlc = omega arith
count_most true dlc = omega arith
