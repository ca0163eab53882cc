-- The packed body that a transmitter sends.
use Rattle.std.proofs.Common.{◌≡◌, ◌+◌, ◌*◌, ◌/◌, ◌%◌, ◌^◌, ◌<◌, ◌≤◌, ℕ, Bool, true, false, List, []}
use Rattle.std.proofs.Common.{◌∷◌, ◌++◌, length, take, get_or, refl, ap, sym, ◌∙◌, arith, append_assoc}
use Rattle.std.specs.List.{flat_map}
use Rattle.std.proofs.Math.Pow.{pow_mono}
use Rattle.std.proofs.lemmas.List.{length-append, append-nil, take_more}
use Rattle.std.proofs.lemmas.Grind.{flat_map-append}
use Rattle.can_frame.specs.Frame.{FrameValue, IsFrame}
use Rattle.can_levels.specs.declared.level.Level.{Level}
use Rattle.can_levels.specs.declared.level.Level.TheVariants.{Dominant, Recessive}
use Rattle.can_levels.specs.Digits.{digit, level_of, bits, value}
use Rattle.can_levels.specs.Body.{head_bits, sent_body}
use Rattle.can_levels.specs.Fields.{dlc_place}
use Rattle.can_bits.specs.Packing.{Packs}
use Rattle.can_levels.proofs.Values.{length-bits, value-append, value-append-bits}
use Rattle.can_levels.proofs.Values.{value-bits, value-lt, bits-value, bits-split}
use Rattle.can_levels.proofs.SaidCounts.{length_head}
use Rattle.can_levels.proofs.Whole.Bytes.{length_bytes}
use Rattle.can_levels.proofs.Packing.Frames.{count_most}

-- the digits of a number after packed levels
pub packs_bits : (word place new at count number : ℕ) (b : List Level) → Packs word place b → length b + count ≤ 118 →
    number < 2 ^ count →
    new ≡ (word * 2 ^ count % 2 ^ 128 + number) % 2 ^ 128 → at ≡ (place + count) % 256 →
    Packs new at (b ++ bits count number)
packs_bits word place new at count number b h room small grown next =
    let more : length (b ++ bits count number) ≡ length b + count =
    omega (arith, length-append b (bits count number), length-bits count number) in
    let all = value-append-bits count b number small in
    let few : length (b ++ bits count number) ≤ 118 = omega (arith, more, room) in
    let most : 2 ^ length (b ++ bits count number) ≤ 2 ^ 118 = pow_mono few in
    let fits : value b * 2 ^ count + number < 2 ^ 118 = omega (arith, all, most, value-lt (b ++ bits count number)) in
    let moved : word * 2 ^ count ≡ value b * 2 ^ count = ap (λ n. n * 2 ^ count) h.word_is in
    let come = h.place_is in
    record {
      place_is = omega (arith, next, come, more, room);
      word_is = grown ∙ omega (arith, moved, fits) ∙ sym all;
      room = omega (arith, more, room);
    }

-- SOF
pub packs_start : Packs 0 1 (Dominant ∷ [])
packs_start = record { place_is = refl; word_is = refl; room = omega arith }

-- the digit of a level
pub bits_digit : (x : Level) → bits 1 (digit x) ≡ x ∷ []
unfolding bits
bits_digit Dominant = refl
bits_digit Recessive = refl

-- two recessive levels, and two dominant ones
pub bits_three : bits 2 3 ≡ Recessive ∷ Recessive ∷ []
unfolding bits
bits_three = refl

pub bits_zero : bits 2 0 ≡ Dominant ∷ Dominant ∷ []
unfolding bits
bits_zero = refl

-- ID.17 to ID.0 are the digits of the identifier's remainder
pub bits_low : (id : ℕ) → id < 2 ^ 29 → bits 18 (id % 2 ^ 18) ≡ bits 18 id
bits_low id small =
    let parts : value (bits 11 (id / 2 ^ 18) ++ bits 18 id) ≡ id =
    ap value (sym (bits-split 11 18 id)) ∙ value-bits 29 id small in
    let sum = value-append (bits 11 (id / 2 ^ 18)) (bits 18 id) in
    let high = value-bits 11 (id / 2 ^ 18) (omega arith) in
    let power : 2 ^ length (bits 18 id) ≡ 2 ^ 18 = ap (λ n. 2 ^ n) (length-bits 18 id) in
    let scaled : value (bits 11 (id / 2 ^ 18)) * 2 ^ length (bits 18 id) ≡ id / 2 ^ 18 * 2 ^ 18 =
    ap (λ n. n * 2 ^ length (bits 18 id)) high ∙ ap (λ n. id / 2 ^ 18 * n) power in
    let low : value (bits 18 id) ≡ id % 2 ^ 18 = omega (arith, parts, sum, scaled) in
    ap (λ n. bits 18 n) (sym low) ∙ bits-value 18 (bits 18 id) (length-bits 18 id)

-- the head of a standard frame, and of an extended one
pub head_standard : (id : ℕ) (rtr : Bool) (r : ℕ) → bits 1 r ≡ level_of rtr ∷ [] →
    ((Dominant ∷ [] ++ bits 11 id) ++ bits 1 r) ++ bits 2 0 ≡ head_bits false id rtr Recessive Dominant Dominant
head_standard id rtr r e =
    ap (λ l. ((Dominant ∷ [] ++ bits 11 id) ++ l) ++ bits 2 0) e
    ∙ ap (λ l. ((Dominant ∷ [] ++ bits 11 id) ++ level_of rtr ∷ []) ++ l) bits_zero
    ∙ append_assoc (Dominant ∷ bits 11 id) (level_of rtr ∷ []) (Dominant ∷ Dominant ∷ [])

pub head_extended : (id : ℕ) (rtr : Bool) (r : ℕ) → id < 2 ^ 29 → bits 1 r ≡ level_of rtr ∷ [] →
    ((((Dominant ∷ [] ++ bits 11 (id / 2 ^ 18)) ++ bits 2 3) ++ bits 18 (id % 2 ^ 18)) ++ bits 1 r) ++ bits 2 0
    ≡ head_bits true id rtr Recessive Dominant Dominant
head_extended id rtr r small e =
    let high : List Level = Dominant ∷ bits 11 (id / 2 ^ 18) in
    let low : List Level = bits 18 id in
    let last : List Level = level_of rtr ∷ [] in
    ap (λ l. (((high ++ l) ++ bits 18 (id % 2 ^ 18)) ++ bits 1 r) ++ bits 2 0) bits_three
    ∙ ap (λ l. (((high ++ Recessive ∷ Recessive ∷ []) ++ l) ++ bits 1 r) ++ bits 2 0) (bits_low id small)
    ∙ ap (λ l. (((high ++ Recessive ∷ Recessive ∷ []) ++ low) ++ l) ++ bits 2 0) e
    ∙ ap (λ l. (((high ++ Recessive ∷ Recessive ∷ []) ++ low) ++ last) ++ l) bits_zero
    ∙ append_assoc ((high ++ Recessive ∷ Recessive ∷ []) ++ low) last (Dominant ∷ Dominant ∷ [])
    ∙ append_assoc (high ++ Recessive ∷ Recessive ∷ []) low (level_of rtr ∷ Dominant ∷ Dominant ∷ [])
    ∙ append_assoc high (Recessive ∷ Recessive ∷ []) (low ++ level_of rtr ∷ Dominant ∷ Dominant ∷ [])

-- a byte more of the data
pub sent_more : (front : List Level) (bytes : List ℕ) (k : ℕ) → k < length bytes →
    (front ++ flat_map (bits 8) (take k bytes)) ++ bits 8 (get_or bytes k 0)
    ≡ front ++ flat_map (bits 8) (take (k + 1) bytes)
sent_more front bytes k within =
    let byte = get_or bytes k 0 in
    append_assoc front (flat_map (bits 8) (take k bytes)) (bits 8 byte)
    ∙ ap (λ l. front ++ (flat_map (bits 8) (take k bytes) ++ l)) (sym (append-nil (bits 8 byte)))
    ∙ ap (λ l. front ++ l) (sym (flat_map-append (bits 8) (take k bytes) (byte ∷ [])))
    ∙ ap (λ l. front ++ flat_map (bits 8) l) (sym (take_more bytes k 0 within))

-- a DLC begins at 35 or before
pub dlc_place-most : (e : Bool) → dlc_place e ≤ 35
dlc_place-most false = omega arith
dlc_place-most true = omega arith

-- a body has 103 levels at most
pub sent_most : (f : FrameValue) → IsFrame f → length (sent_body f) ≤ 103
sent_most f h =
    let head : List Level = head_bits f.ext f.id f.rtr Recessive Dominant Dominant in
    let bytes : List Level = flat_map (bits 8) f.bytes in
    let many = h.count in
    omega (
      arith,
      length-append head (bits 4 f.dlc ++ bytes),
      length-append (bits 4 f.dlc) bytes,
      length-bits 4 f.dlc,
      length_bytes f.bytes,
      many,
      count_most f.rtr f.dlc,
      length_head f.ext f.id f.rtr Recessive Dominant Dominant,
      dlc_place-most f.ext,
    )
