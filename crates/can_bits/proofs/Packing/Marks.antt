-- At how many levels more is known of a body and its CRC sequence.
use Rattle.std.proofs.Common.{◌≡◌, ◌≢◌, ◌+◌, ◌<◌, ◌≤◌, ◌↔◌, inl, inr, ℕ, Bool, true, false}
use Rattle.std.proofs.Common.{List, [], ◌∷◌, ◌++◌, length, refl, ap, sym, ◌∙◌, arith}
use Rattle.std.proofs.lemmas.Bool.{cases_lt, lt-ltb, le-ltb}
use Rattle.std.proofs.lemmas.List.{length_push, get_or_append_left}
use Rattle.can_levels.specs.declared.level.Level.{Level}
use Rattle.can_levels.specs.declared.level.Level.TheVariants.{Dominant}
use Rattle.can_levels.specs.Fields.{is_recessive, says_ext, says_count, dlc_place}
use Rattle.can_levels.specs.DataBits.{data_place}
use Rattle.can_levels.specs.Segments.{segment_in, segments_of, segment_at}
use Rattle.can_levels.specs.FramePlaces.{index_in, index_at}
use Rattle.can_bits.specs.Inside.Gathering.{mark_of}
use Rattle.can_levels.proofs.SaidCounts.{says_count-more}

-- a DLC ends at 19 or later
head_least : (e : Bool) → 19 ≤ dlc_place e + 4
head_least false = omega arith
head_least true = omega arith

-- the three cases
mark_early : (w : List Level) → length w < 19 → mark_of w ≡ 19
mark_early w h = rw (lt-ltb (length w) 19 h) refl

mark_head : (w : List Level) → 19 ≤ length w → length w < data_place w → mark_of w ≡ data_place w
mark_head w h k = rw (le-ltb (length w) 19 h, lt-ltb (length w) (data_place w) k) refl

pub mark_said : (w : List Level) → data_place w ≤ length w → mark_of w ≡ says_count w
mark_said w h =
    rw (le-ltb (length w) 19 (omega (arith, head_least (says_ext w))), le-ltb (length w) (data_place w) h) refl

-- the format is known from place 14 on
ext_stays : (w : List Level) (x : Level) → 19 ≤ length w → says_ext (w ++ x ∷ []) ≡ says_ext w
ext_stays w x h = ap is_recessive (get_or_append_left w (x ∷ []) Dominant 13 (omega arith))

-- past the DLC the mark stays
pub mark_past : (w : List Level) (x : Level) → data_place (w ++ x ∷ []) < length (w ++ x ∷ []) →
    mark_of (w ++ x ∷ []) ≡ mark_of w
mark_past w x past =
    let more = length_push w x in
    let late : 19 ≤ length w = omega (arith, more, past, head_least (says_ext (w ++ x ∷ []))) in
    let head : data_place (w ++ x ∷ []) ≡ data_place w = ap (λ e. dlc_place e + 4) (ext_stays w x late) in
    let said : data_place w ≤ length w = omega (arith, more, past, head) in
    mark_said (w ++ x ∷ []) (omega (arith, past)) ∙ says_count-more w (x ∷ []) said ∙ sym (mark_said w said)

-- it stays until it has come
pub mark_stays : (w : List Level) (x : Level) → length w + 1 ≢ mark_of w → mark_of (w ++ x ∷ []) ≡ mark_of w
mark_stays w x other =
    let more = length_push w x in
    elim (cases_lt (length w) 19) [
      | inl early ↦
          let mark = mark_early w early in
          mark_early (w ++ x ∷ []) (omega (arith, more, early, other, mark)) ∙ sym mark
      | inr late ↦
          let head : data_place (w ++ x ∷ []) ≡ data_place w = ap (λ e. dlc_place e + 4) (ext_stays w x late) in
          elim (cases_lt (length w) (data_place w)) [
            | inl before ↦
                let mark = mark_head w late before in
                mark_head (w ++ x ∷ []) (omega (arith, more, late)) (omega (arith, more, head, before, other, mark))
                ∙ head ∙ sym mark
            | inr past ↦ mark_past w x (omega (arith, more, head, past))
          ]
    ]

-- it is no less than the end of a standard frame's DLC
pub mark_least : (w : List Level) → 19 ≤ mark_of w
mark_least w =
    elim (cases_lt (length w) 19) [
      | inl early ↦ omega (arith, mark_early w early)
      | inr late ↦ elim (cases_lt (length w) (data_place w)) [
        | inl before ↦ omega (arith, mark_head w late before, head_least (says_ext w))
        | inr past ↦ omega (arith, mark_said w past, head_least (says_ext w))
      ]
    ]

-- all levels have come where the mark is reached and they are as many as they say
pub mark_whole : (w : List Level) → (length w ≡ mark_of w) ↔ (length w ≡ says_count w)
mark_whole w =
    let least = head_least (says_ext w) in
    elim (cases_lt (length w) 19) [
      | inl early ↦ let mark = mark_early w early in
          (λ h. absurd (omega (arith, h, mark, early)), λ h. absurd (omega (arith, h, early, least)))
      | inr late ↦ elim (cases_lt (length w) (data_place w)) [
        | inl before ↦ let mark = mark_head w late before in
            (λ h. absurd (omega (arith, h, mark, before)), λ h. absurd (omega (arith, h, before)))
        | inr past ↦ let mark = mark_said w past in (λ h. h ∙ mark, λ h. h ∙ sym mark)
      ]
    ]

-- up to the end of the DLC the segments are those of any length
segment_early : (e : Bool) (c d p : ℕ) → p < dlc_place e + 4 →
    segment_in (segments_of e c) p ≡ segment_in (segments_of e d) p
segment_early false c d p h = rw (lt-ltb p 19 h) refl
segment_early true c d p h = rw (lt-ltb p 39 h) refl

-- so the mark gives the segments of all places up to the next level
pub mark_segment : (w : List Level) (p : ℕ) → p ≤ length w →
    segment_in (segments_of (says_ext w) (mark_of w)) p ≡ segment_at w p
mark_segment w p within =
    elim (cases_lt (length w) (data_place w)) [
      | inl before ↦ segment_early (says_ext w) (mark_of w) (says_count w) p (omega (arith, within, before))
      | inr past ↦ ap (λ n. segment_in (segments_of (says_ext w) n) p) (mark_said w past)
    ]

-- and so are the levels of a segment before them
index_early : (e : Bool) (c d p : ℕ) → p < dlc_place e + 4 →
    index_in 0 (segments_of e c) p ≡ index_in 0 (segments_of e d) p
index_early false c d p h = rw (lt-ltb p 19 h) refl
index_early true c d p h = rw (lt-ltb p 39 h) refl

pub mark_index : (w : List Level) (p : ℕ) → p ≤ length w →
    index_in 0 (segments_of (says_ext w) (mark_of w)) p ≡ index_at w p
mark_index w p within =
    elim (cases_lt (length w) (data_place w)) [
      | inl before ↦ index_early (says_ext w) (mark_of w) (says_count w) p (omega (arith, within, before))
      | inr past ↦ ap (λ n. index_in 0 (segments_of (says_ext w) n) p) (mark_said w past)
    ]
