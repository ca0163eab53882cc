-- The run of equal levels before a bit.
use Rattle.std.proofs.Common.{◌≡◌, inl, inr, ℕ, zero, suc, Bool, true, false, ◌==◌, ◌||◌, if◌then◌else◌}
use Rattle.std.proofs.Common.{Option, Some, None, List, [], ◌∷◌, ◌++◌, map, take, refl, sym, ap, ◌∙◌}
use Rattle.std.specs.Prelude.{slice_get, option_map}
use Rattle.std.specs.List.{list_any}
use Rattle.std.proofs.lemmas.Bool.{cases_Bool, or_right}
use Rattle.can_levels.specs.declared.level.Level.{Level}
use Rattle.text_frames.specs.declared.run.Run.{Run}
use Rattle.text_frames.specs.FrameBits.{one_level, run_on, run_of}
use Rattle.sja_replay.specs.declared.bit_event.BitEvent.{BitEvent}
use Rattle.text_picture.specs.EqualLevels.{is_start, from_start, equal_levels}
use Rattle.text_picture.specs.Letters.{letter}
use Rattle.text_picture.specs.Rows.{letter_if}
use Rattle.text_picture.specs.Drawing.{run_with, run_past, run_since, run_after, is_full, letter_after}

-- ---- the bits from the last SOF on, with one more

-- a bit behind those from a SOF on, if there was one
abbrev behind_start : List BitEvent → BitEvent → List BitEvent
behind_start [] h = []
behind_start (sof ∷ hs) h = sof ∷ (hs ++ h ∷ [])

any_yes : (hs : List BitEvent) (h : BitEvent) → is_start h ≡ true → list_any is_start (hs ++ h ∷ []) ≡ true
any_yes [] h holds = ap (λ (b : Bool). b || false) holds
any_yes (x ∷ hs) h holds = ap (λ (b : Bool). is_start x || b) (any_yes hs h holds) ∙ or_right (is_start x) true refl

any_no : (hs : List BitEvent) (h : BitEvent) → is_start h ≡ false →
    list_any is_start (hs ++ h ∷ []) ≡ list_any is_start hs
any_no [] h fails = ap (λ (b : Bool). b || false) fails
any_no (x ∷ hs) h fails = ap (λ (b : Bool). is_start x || b) (any_no hs h fails)

from_yes : (hs : List BitEvent) (h : BitEvent) → is_start h ≡ true → from_start (hs ++ h ∷ []) ≡ h ∷ []
from_yes [] h holds = ap (λ (b : Bool). if b then h ∷ [] else []) holds
from_yes (x ∷ hs) h holds =
    let rest = if is_start x then x ∷ (hs ++ h ∷ []) else [] in
    ap (λ (b : Bool). if b then from_start (hs ++ h ∷ []) else rest) (any_yes hs h holds) ∙ from_yes hs h holds

chosen : (any start : Bool) (x h : BitEvent) (hs : List BitEvent) →
    (if any then behind_start (from_start hs) h else if start then x ∷ (hs ++ h ∷ []) else [])
    ≡ behind_start (if any then from_start hs else if start then x ∷ hs else []) h
chosen true start x h hs = refl
chosen false true x h hs = refl
chosen false false x h hs = refl

from_no : (hs : List BitEvent) (h : BitEvent) → is_start h ≡ false →
    from_start (hs ++ h ∷ []) ≡ behind_start (from_start hs) h
from_no [] h fails = ap (λ (b : Bool). if b then h ∷ [] else []) fails
from_no (x ∷ hs) h fails =
    let rest = if is_start x then x ∷ (hs ++ h ∷ []) else [] in
    ap (λ (b : Bool). if b then from_start (hs ++ h ∷ []) else rest) (any_no hs h fails)
    ∙ ap (λ (l : List BitEvent). if list_any is_start hs then l else rest) (from_no hs h fails)
    ∙ chosen (list_any is_start hs) (is_start x) x h hs

-- ---- its run

levels_more : (r : Run) (levels : List Level) (x : Level) →
    run_of r (levels ++ x ∷ []) ≡ run_on (run_of r levels) x
levels_more r [] x = refl
levels_more r (y ∷ levels) x = levels_more (run_on r y) levels x

seen_more : (hs : List BitEvent) (h : BitEvent) →
    map (λ (x : BitEvent). x.seen) (hs ++ h ∷ []) ≡ map (λ (x : BitEvent). x.seen) hs ++ h.seen ∷ []
seen_more [] h = refl
seen_more (x ∷ hs) h = ap (λ l. x.seen ∷ l) (seen_more hs h)

since_more : (hs : List BitEvent) (h : BitEvent) →
    run_since (behind_start hs h) ≡ option_map (λ (r : Run). run_on r h.seen) (run_since hs)
since_more [] h = refl
since_more (sof ∷ hs) h =
    ap (λ levels. Some (run_of (one_level sof.seen) levels)) (seen_more hs h)
    ∙ ap (λ (r : Run). Some r) (levels_more (one_level sof.seen) (map (λ (x : BitEvent). x.seen) hs) h.seen)

run_more : (before : List BitEvent) (h : BitEvent) →
    run_after (before ++ h ∷ []) ≡ run_with (run_after before) h
run_more before h =
    let anew : Option Run = Some (one_level h.seen) in
    let on = option_map (λ (r : Run). run_on r h.seen) (run_after before) in
    elim (cases_Bool (is_start h)) [
      | inl holds ↦ ap run_since (from_yes before h holds) ∙ sym (ap (λ (b : Bool). if b then anew else on) holds)
      | inr fails ↦ ap run_since (from_no before h fails) ∙ since_more (from_start before) h
          ∙ sym (ap (λ (b : Bool). if b then anew else on) fails)
    ]

-- ---- past a bit of a node

abbrev with_one : List BitEvent → Option BitEvent → List BitEvent
with_one before None = before
with_one before (Some h) = before ++ h ∷ []

one_behind : (x : BitEvent) (before : List BitEvent) (o : Option BitEvent) →
    x ∷ with_one before o ≡ with_one (x ∷ before) o
one_behind x before None = refl
one_behind x before (Some h) = refl

take_next : (hs : List BitEvent) (bit : ℕ) → take (suc bit) hs ≡ with_one (take bit hs) (slice_get hs bit)
take_next [] zero = refl
take_next [] (suc bit) = refl
take_next (x ∷ hs) zero = refl
take_next (x ∷ hs) (suc bit) =
    ap (λ l. x ∷ l) (take_next hs bit) ∙ one_behind x (take bit hs) (slice_get hs bit)

past_one : (before : List BitEvent) (o : Option BitEvent) →
    run_past (run_after before) o ≡ run_after (with_one before o)
past_one before None = refl
past_one before (Some h) = sym (run_more before h)

pub run_next : (hs : List BitEvent) (bit : ℕ) →
    run_past (run_after (take bit hs)) (slice_get hs bit) ≡ run_after (take (suc bit) hs)
run_next hs bit = past_one (take bit hs) (slice_get hs bit) ∙ ap run_after (sym (take_next hs bit))

-- ---- the letter of a bit

pub full_is : (bits : List BitEvent) → is_full (run_since bits) ≡ (equal_levels bits == 5)
full_is [] = refl
full_is (sof ∷ hs) = refl

pub letter_is : (bus : Level) (before : List BitEvent) (o : Option BitEvent) →
    letter_after bus (run_after before) o ≡ letter_if bus before o
letter_is bus before None = refl
letter_is bus before (Some h) = ap (λ (b : Bool). letter bus b h) (full_is (from_start before))
