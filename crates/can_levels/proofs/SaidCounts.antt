-- How many levels a body has, and how many its levels say that there are.
use Rattle.std.proofs.Common.{◌≡◌, ◌+◌, ◌-◌, ◌*◌, ◌/◌, ◌^◌, ◌<◌, ◌≤◌, ℕ, Bool, true, false, List}
use Rattle.std.proofs.Common.{[], ◌∷◌, ◌++◌, length, replicate, refl, ap, sym, ◌∙◌, arith, inl, inr}
use Rattle.std.specs.List.{flat_map}
use Rattle.std.proofs.lemmas.Bool.{cases_lt}
use Rattle.std.proofs.lemmas.List.{get_or_append_left, get_or-append_right, get_or-replicate}
use Rattle.std.proofs.lemmas.List.{get_or_past, length-append, length-replicate, length_push}
use Rattle.can_frame.specs.Frame.{FrameValue, IsFrame, data_count}
use Rattle.can_levels.specs.declared.level.Level.{Level}
use Rattle.can_levels.specs.declared.level.Level.TheVariants.{Dominant, Recessive}
use Rattle.can_levels.specs.Digits.{level_of, bits}
use Rattle.can_levels.specs.Body.{head_bits, IsBody}
use Rattle.can_levels.specs.Fields.{level_at, is_recessive, says_ext, rtr_place, dlc_place}
use Rattle.can_levels.specs.Fields.{says_rtr, four_from, says_dlc, says_count}
use Rattle.can_levels.specs.DataBits.{IsWhole}
use Rattle.can_levels.specs.Spelling.{Spells}
use Rattle.can_levels.proofs.Values.{length-bits}
use Rattle.can_levels.proofs.Whole.Bytes.{length_bytes}
use Rattle.can_levels.proofs.FieldLemmas.{four-same, says_spelled}

-- how many levels stand before the DLC
pub length_head : (ext : Bool) (id : ℕ) (rtr : Bool) (srr r1 r0 : Level) →
    length (head_bits ext id rtr srr r1 r0) ≡ dlc_place ext
length_head false id rtr srr r1 r0 =
    omega (arith, length-append (bits 11 id) (level_of rtr ∷ Dominant ∷ r0 ∷ []), length-bits 11 id)
length_head true id rtr srr r1 r0 =
    let low : List Level = bits 18 id ++ level_of rtr ∷ r1 ∷ r0 ∷ [] in
    let count : length low ≡ 21 =
    omega (arith, length-append (bits 18 id) (level_of rtr ∷ r1 ∷ r0 ∷ []), length-bits 18 id) in
    omega (arith, length-append (bits 11 (id / 2 ^ 18)) (srr ∷ Recessive ∷ low), length-bits 11 (id / 2 ^ 18))

-- how many levels a body has
pub length_body : (f : FrameValue) (b : List Level) → IsFrame f → IsBody f b →
    length b ≡ dlc_place f.ext + 4 + 8 * data_count f.rtr f.dlc
length_body f b frame (srr, r1, r0, e) =
    let head : List Level = head_bits f.ext f.id f.rtr srr r1 r0 in
    let code : List Level = bits 4 f.dlc in
    let bytes : List Level = flat_map (bits 8) f.bytes in
    omega (
      arith,
      ap length e,
      length-append head (code ++ bytes),
      length-append code bytes,
      length_head f.ext f.id f.rtr srr r1 r0,
      length-bits 4 f.dlc,
      length_bytes f.bytes,
      frame.count,
    )

-- how many levels they say that there are
count-says : (w : List Level) (format remote : Bool) (code : ℕ) → says_ext w ≡ format → says_rtr w ≡ remote →
    says_dlc w ≡ code →
    says_count w ≡ dlc_place format + 19 + 8 * data_count remote code
count-says w format remote code ext rtr dlc =
    ap (λ e. dlc_place e + 19 + 8 * data_count (says_rtr w) (says_dlc w)) ext
    ∙ ap (λ r. dlc_place format + 19 + 8 * data_count r (says_dlc w)) rtr
    ∙ ap (λ n. dlc_place format + 19 + 8 * data_count remote n) dlc

-- a body and 15 levels begin with SOF and are as many as they say
pub whole_of : (f : FrameValue) (b c w : List Level) → Spells f b c w → IsWhole w
whole_of f b c w h =
    let told = says_spelled f b c w h in
    let said = count-says w f.ext f.rtr f.dlc told.ext told.rtr told.dlc in
    record {
      begins = told.begins;
      count = omega (arith, ap length h.whole, length-append b c, length_body f b h.frame h.body, h.check, said);
    }

-- the places of the format and of RTR are before the end of the DLC
ext_before : (e : Bool) → 13 < dlc_place e + 4
ext_before false = omega arith
ext_before true = omega arith

rtr_before : (e : Bool) → rtr_place e < dlc_place e + 4
rtr_before false = omega arith
rtr_before true = omega arith

-- levels that are equal up to the end of the DLC say the same
pub says_count-same : (v w : List Level) → ((k : ℕ) → k < dlc_place (says_ext w) + 4 → level_at v k ≡ level_at w k) →
    says_count v ≡ says_count w
says_count-same v w h =
    let format : Bool = says_ext w in
    let ext : says_ext v ≡ format = ap is_recessive (h 13 (ext_before format)) in
    let rtr : says_rtr v ≡ says_rtr w =
    ap (λ e. is_recessive (level_at v (rtr_place e))) ext
    ∙ ap is_recessive (h (rtr_place format) (rtr_before format)) in
    let dlc : says_dlc v ≡ says_dlc w =
    ap (λ e. four_from v (dlc_place e)) ext
    ∙ four-same v w (dlc_place format) (dlc_place format) (λ k below. h (dlc_place format + k) (omega arith)) in
    count-says v format (says_rtr w) (says_dlc w) ext rtr dlc

-- once all fields have come, the levels after them change nothing
pub says_count-more : (w t : List Level) → dlc_place (says_ext w) + 4 ≤ length w → says_count (w ++ t) ≡ says_count w
says_count-more w t h = says_count-same (w ++ t) w (λ k below. get_or_append_left w t Dominant k (omega arith))

-- a level that hasn't come counts as dominant
pub level_at-padded : (w : List Level) (n k : ℕ) → level_at (w ++ replicate n Dominant) k ≡ level_at w k
level_at-padded w n k =
    elim (cases_lt k (length w)) [
      | inl below ↦ get_or_append_left w (replicate n Dominant) Dominant k below
      | inr past ↦ elim (cases_lt k (length (w ++ replicate n Dominant))) [
        | inl inside ↦ get_or-append_right w (replicate n Dominant) (length w) k Dominant refl past
            ∙ get_or-replicate n (k - length w) Dominant Dominant
            (omega (arith, length-append w (replicate n Dominant), length-replicate n Dominant))
            ∙ sym (get_or_past w k Dominant past)
        | inr outside ↦ get_or_past (w ++ replicate n Dominant) k Dominant outside ∙ sym (get_or_past w k Dominant past)
      ]
    ]

-- dominant levels after the last one change nothing
pub says_count-padded : (w : List Level) (n : ℕ) → says_count (w ++ replicate n Dominant) ≡ says_count w
says_count-padded w n = says_count-same (w ++ replicate n Dominant) w (λ k below. level_at-padded w n k)

-- the DLC has a place in any body
pub dlc_place-least : (e : Bool) → 15 ≤ dlc_place e
dlc_place-least false = omega arith
dlc_place-least true = omega arith

-- while levels are fewer than they say, one more is at most as many
pub says_count-next : (w : List Level) (x : Level) → length w < says_count w →
    length (w ++ x ∷ []) ≤ says_count (w ++ x ∷ [])
says_count-next w x h =
    let count = length_push w x in
    elim (cases_lt (length w) (dlc_place (says_ext w) + 4)) [
      | inr all ↦ omega (arith, count, says_count-more w (x ∷ []) all)
      | inl some ↦ elim (cases_lt 13 (length w)) [
        | inl format ↦ let ext : says_ext (w ++ x ∷ []) ≡ says_ext w =
            ap is_recessive (get_or_append_left w (x ∷ []) Dominant 13 format) in
            omega (arith, count, ap dlc_place ext)
        | inr early ↦ omega (arith, count, dlc_place-least (says_ext (w ++ x ∷ [])))
      ]
    ]

-- a whole body has all its fields
pub whole_has_fields : (w : List Level) → IsWhole w → dlc_place (says_ext w) + 4 ≤ length w
whole_has_fields w h = let count = h.count in omega (arith, count)
