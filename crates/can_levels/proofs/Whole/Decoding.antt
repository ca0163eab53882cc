-- The frame that levels spell.
use Rattle.std.proofs.Common.{◌≡◌, ◌+◌, ◌-◌, ◌*◌, ◌/◌, ◌^◌, ◌<◌, ◌≤◌, ℕ, Bool, true, false, List, [], ◌∷◌}
use Rattle.std.proofs.Common.{◌++◌, length, drop, slice_range, refl, ap, sym, subst, ◌∙◌, arith, append_assoc}
use Rattle.std.specs.List.{flat_map}
use Rattle.std.proofs.lemmas.List.{get_or-drop, length-append, length-drop, drop_more}
use Rattle.std.proofs.lemmas.List.Folds.{drop_split}
use Rattle.can_frame.specs.Frame.{FrameValue, id_limit}
use Rattle.can_levels.specs.declared.level.Level.{Level}
use Rattle.can_levels.specs.declared.level.Level.TheVariants.{Dominant, Recessive}
use Rattle.can_levels.specs.Digits.{level_of, bits, value}
use Rattle.can_levels.specs.Body.{head_bits}
use Rattle.can_levels.specs.Fields.{level_at, is_recessive, says_ext, rtr_place}
use Rattle.can_levels.specs.Fields.{dlc_place, says_rtr, four_from, says_dlc}
use Rattle.can_levels.specs.DataBits.{id_by, says_id, data_place, says_bytes, data_levels, IsWhole}
use Rattle.can_levels.specs.Spelling.{Spells}
use Rattle.lemmas.proofs.Lists.{append-split, length_range}
use Rattle.can_levels.proofs.Values.{length-bits, digit-lt, value-append, value-lt, bits-value, bits-split, dominant_by}
use Rattle.can_levels.proofs.Values.{recessive_by}
use Rattle.can_levels.proofs.Whole.Bytes.{Writes, bytes_of}
use Rattle.can_levels.proofs.FieldLemmas.{four-same, four-value}
use Rattle.can_levels.proofs.SaidCounts.{whole_has_fields}

-- a level is that of the bit that says whether it is recessive
level-recessive : (x : Level) → level_of (is_recessive x) ≡ x
level-recessive Dominant = refl
level-recessive Recessive = refl

-- the number that four levels write
pub four_is : (w : List Level) (p : ℕ) → p + 4 ≤ length w → four_from w p ≡ value (slice_range w p (p + 4))
four_is w p h =
    let four : List Level = slice_range w p (p + 4) in
    let split : drop p w ≡ four ++ drop (p + 4) w = drop_split w p (p + 4) (omega arith) in
    let count : length four ≡ 4 = length_range w p (p + 4) (omega arith) h ∙ omega arith in
    let here : four_from w p ≡ four_from (drop p w) 0 = four-same w (drop p w) p 0 (λ k below.
    let place : 0 + k ≡ k = omega arith in
    sym (get_or-drop p w k Dominant) ∙ ap (λ q. level_at (drop p w) q) (sym place)) in
    here ∙ ap (λ l. four_from l 0) split ∙ four-value four (drop (p + 4) w) count

-- four levels of a list are the digits of the number that they write
four_levels : (w : List Level) (p : ℕ) → p + 4 ≤ length w → drop p w ≡ bits 4 (four_from w p) ++ drop (p + 4) w
four_levels w p h =
    let four : List Level = slice_range w p (p + 4) in
    let count : length four ≡ 4 = length_range w p (p + 4) (omega arith) h ∙ omega arith in
    drop_split w p (p + 4) (omega arith)
    ∙ ap (λ l. l ++ drop (p + 4) w) (sym (ap (λ n. bits 4 n) (four_is w p h) ∙ bits-value 4 four count))

-- four digits write a number below 16
pub four-lt : (w : List Level) (p : ℕ) → four_from w p < 16
four-lt w p =
    omega (
      arith,
      digit-lt (level_at w p),
      digit-lt (level_at w (p + 1)),
      digit-lt (level_at w (p + 2)),
      digit-lt (level_at w (p + 3)),
    )

-- the two parts of an extended identifier
id_parts : (i j : List Level) → length i ≡ 11 → length j ≡ 18 →
    (bits 11 ((value i * 2 ^ 18 + value j) / 2 ^ 18) ≡ i) × (bits 18 (value i * 2 ^ 18 + value j) ≡ j)
id_parts i j hi hj =
    let id : ℕ = value i * 2 ^ 18 + value j in
    let joined : value (i ++ j) ≡ id = value-append i j ∙ ap (λ k. value i * 2 ^ k + value j) hj in
    let count : length (i ++ j) ≡ 29 = omega (arith, length-append i j) in
    let all : bits 29 id ≡ i ++ j = ap (λ n. bits 29 n) (sym joined) ∙ bits-value 29 (i ++ j) count in
    append-split (bits 11 (id / 2 ^ 18)) (bits 18 id) i j (length-bits 11 (id / 2 ^ 18) ∙ sym hi)
    (sym (bits-split 11 18 id) ∙ all)

-- the levels before the DLC, by the format
head_read : (e : Bool) (w : List Level) → level_at w 0 ≡ Dominant → says_ext w ≡ e → dlc_place e ≤ length w →
    w ≡ head_bits e (id_by e w) (is_recessive (level_at w (rtr_place e))) (level_at w 12) (level_at w 33)
    (level_at w (dlc_place e - 1))
    ++ drop (dlc_place e) w
head_read false w begins ext h =
    let i : List Level = slice_range w 1 12 in
    let written : bits 11 (value i) ≡ i = bits-value 11 i (length_range w 1 12 (omega arith) (omega arith)) in
    let ide : level_at w 13 ≡ Dominant = dominant_by (level_at w 13) ext in
    let rtr = level-recessive (level_at w 12) in
    let after : List Level = level_of (is_recessive (level_at w 12)) ∷ Dominant ∷ level_at w 14 ∷ [] in
    let d0 : w ≡ level_at w 0 ∷ drop 1 w = drop_more w 0 Dominant (omega arith) in
    let d1 : drop 1 w ≡ i ++ drop 12 w = drop_split w 1 12 (omega arith) in
    let d12 : drop 12 w ≡ level_at w 12 ∷ drop 13 w = drop_more w 12 Dominant (omega arith) in
    let d13 : drop 13 w ≡ level_at w 13 ∷ drop 14 w = drop_more w 13 Dominant (omega arith) in
    let d14 : drop 14 w ≡ level_at w 14 ∷ drop 15 w = drop_more w 14 Dominant (omega arith) in
    let rest : drop 12 w ≡ after ++ drop 15 w = cc in
    let low : drop 1 w ≡ bits 11 (value i) ++ (after ++ drop 15 w) = cc in
    d0 ∙ ap (λ x. x ∷ drop 1 w) begins
    ∙ ap (λ l. Dominant ∷ l) (low ∙ sym (append_assoc (bits 11 (value i)) after (drop 15 w)))
head_read true w begins ext h =
    let i : List Level = slice_range w 1 12 in
    let j : List Level = slice_range w 14 32 in
    let id : ℕ = value i * 2 ^ 18 + value j in
    let (high, low) =
    id_parts i j (length_range w 1 12 (omega arith) (omega arith)) (length_range w 14 32 (omega arith) (omega arith)) in
    let ide : level_at w 13 ≡ Recessive = recessive_by (level_at w 13) ext in
    let rtr = level-recessive (level_at w 32) in
    let last : List Level = level_of (is_recessive (level_at w 32)) ∷ level_at w 33 ∷ level_at w 34 ∷ [] in
    let middle : List Level = bits 18 id ++ last in
    let d0 : w ≡ level_at w 0 ∷ drop 1 w = drop_more w 0 Dominant (omega arith) in
    let d1 : drop 1 w ≡ i ++ drop 12 w = drop_split w 1 12 (omega arith) in
    let d12 : drop 12 w ≡ level_at w 12 ∷ drop 13 w = drop_more w 12 Dominant (omega arith) in
    let d13 : drop 13 w ≡ level_at w 13 ∷ drop 14 w = drop_more w 13 Dominant (omega arith) in
    let d14 : drop 14 w ≡ j ++ drop 32 w = drop_split w 14 32 (omega arith) in
    let d32 : drop 32 w ≡ level_at w 32 ∷ drop 33 w = drop_more w 32 Dominant (omega arith) in
    let d33 : drop 33 w ≡ level_at w 33 ∷ drop 34 w = drop_more w 33 Dominant (omega arith) in
    let d34 : drop 34 w ≡ level_at w 34 ∷ drop 35 w = drop_more w 34 Dominant (omega arith) in
    let rest : drop 32 w ≡ last ++ drop 35 w = cc in
    let part : drop 14 w ≡ bits 18 id ++ (last ++ drop 35 w) = cc in
    let both : drop 14 w ≡ middle ++ drop 35 w = part ∙ sym (append_assoc (bits 18 id) last (drop 35 w)) in
    let more : drop 12 w ≡ (level_at w 12 ∷ Recessive ∷ middle) ++ drop 35 w = cc in
    let all : drop 1 w ≡ bits 11 (id / 2 ^ 18) ++ ((level_at w 12 ∷ Recessive ∷ middle) ++ drop 35 w) = cc in
    d0 ∙ ap (λ x. x ∷ drop 1 w) begins
    ∙ ap (λ l. Dominant ∷ l) (all ∙ sym (append_assoc (bits 11 (id / 2 ^ 18)) (level_at w 12 ∷ Recessive ∷ middle)
    (drop 35 w)))

-- the identifier is one of its format
id_by-lt : (e : Bool) (w : List Level) → dlc_place e ≤ length w → id_by e w < id_limit e
id_by-lt false w h =
    let count = length_range w 1 12 (omega arith) (omega arith) in
    subst (λ n. value (slice_range w 1 12) < 2 ^ n) count (value-lt (slice_range w 1 12))
id_by-lt true w h =
    let count = length_range w 1 12 (omega arith) (omega arith) in
    let more = length_range w 14 32 (omega arith) (omega arith) in
    let high : value (slice_range w 1 12) < 2 ^ 11 =
    subst (λ n. value (slice_range w 1 12) < 2 ^ n) count (value-lt (slice_range w 1 12)) in
    let low : value (slice_range w 14 32) < 2 ^ 18 =
    subst (λ n. value (slice_range w 14 32) < 2 ^ n) more (value-lt (slice_range w 14 32)) in
    omega arith

-- the identifier of a whole body is one of its format
pub says_id-lt : (w : List Level) → IsWhole w → says_id w < id_limit (says_ext w)
says_id-lt w h = id_by-lt (says_ext w) w (omega (arith, whole_has_fields w h))

-- a body with these data bytes
abbrev pub said_frame : List Level → List ℕ → FrameValue
said_frame w bytes = record { ext = says_ext w; id = says_id w; rtr = says_rtr w; dlc = says_dlc w; bytes = bytes }

-- a whole body spells the frame of what it says
pub spelled : (w : List Level) (bytes : List ℕ) → IsWhole w → length bytes ≡ says_bytes w →
    Writes bytes (data_levels w) →
    (b c : List Level) × Spells (said_frame w bytes) b c w
spelled w bytes h many written =
    let e : Bool = says_ext w in
    let p : ℕ = dlc_place e in
    let end : ℕ = p + 4 + 8 * says_bytes w in
    let fields : p + 4 ≤ length w = whole_has_fields w h in
    let total : length w ≡ end + 15 = let count = h.count in omega (arith, count) in
    let head : List Level = head_bits e (says_id w) (says_rtr w) (level_at w 12) (level_at w 33) (level_at w (p - 1)) in
    let code : List Level = bits 4 (says_dlc w) in
    let levels : List Level = flat_map (bits 8) bytes in
    let check : List Level = drop end w in
    let begun : w ≡ head ++ drop p w = head_read e w h.begins refl (omega arith) in
    let coded : drop p w ≡ code ++ drop (p + 4) w = four_levels w p fields in
    let filled : drop (p + 4) w ≡ levels ++ check =
    drop_split w (p + 4) end (omega arith) ∙ ap (λ l. l ++ check) (sym written.levels) in
    let whole : w ≡ (head ++ (code ++ levels)) ++ check =
    begun ∙ ap (λ l. head ++ l) (coded ∙ ap (λ l. code ++ l) filled ∙ sym (append_assoc code levels check))
    ∙ sym (append_assoc head (code ++ levels) check) in (
      head ++ (code ++ levels),
      check,
      record {
        frame = record { id = says_id-lt w h; dlc = four-lt w p; count = many; bytes = written.small };
        body = (level_at w 12, level_at w 33, level_at w (p - 1), refl);
        check = omega (arith, length-drop end w);
        whole = whole;
      },
    )

-- any whole list of levels is a body of some frame and 15 levels
pub decoded : (w : List Level) → IsWhole w → (f : FrameValue) × (b : List Level) × (c : List Level) × Spells f b c w
decoded w h =
    let end : ℕ = data_place w + 8 * says_bytes w in
    let count : length (data_levels w) ≡ 8 * says_bytes w =
    length_range w (data_place w) end (omega arith) (let total = h.count in omega (arith, total)) ∙ omega arith in
    let (bytes, many, written) = bytes_of (says_bytes w) (data_levels w) count in
    let (b, c, found) = spelled w bytes h many written in
    (said_frame w bytes, b, c, found)
