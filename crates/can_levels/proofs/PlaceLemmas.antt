-- Places in the arbitration field.
use Rattle.std.proofs.Common.{◌≡◌, ◌-◌, ◌&&◌, ◌<◌, ◌≤◌, inl, inr, ℕ, Bool, true, false}
use Rattle.std.proofs.Common.{IsTrue, if◌then◌else◌, nat_le, nat_lt, Some, None, List, [], ◌∷◌}
use Rattle.std.proofs.Common.{◌++◌, reverse, length, refl, ap, sym, ◌∙◌, arith, append_assoc}
use Rattle.std.proofs.lemmas.Bool.{cases_Bool, cases_lt, le-leb, lt-leb, leb-true, and_parts, and_right}
use Rattle.std.proofs.lemmas.List.{append-nil, length-append, length-reverse, reverse-append}
use Rattle.can_levels.specs.declared.level.Level.{Level}
use Rattle.can_levels.specs.declared.level.Level.TheVariants.{Dominant, Recessive}
use Rattle.can_levels.specs.Fields.{rtr_place}
use Rattle.can_levels.specs.Line.{StuffedPart}
use Rattle.can_levels.specs.Places.{begins_in_five, is_full, unless_stuff, plain_after}
use Rattle.can_levels.specs.Places.{plain_count, place_code, is_early_stuff}
use Rattle.can_levels.proofs.SaidCounts.{length_body, dlc_place-least}
use Rattle.lemmas.proofs.Lists.{reverse-cons, reverse-push}
use Rattle.can_levels.proofs.Parts.{plain, unstuffed-later}
use Rattle.can_levels.proofs.Runs.{same, lead, run}
use Rattle.can_levels.proofs.Stuffs.{unstuffed, unstuffed-kept, unstuffed-dropped, stuffed_to}
use Rattle.can_frame.specs.Frame.{FrameValue}

-- a run is no longer than its list
lead-le : (x : Level) (l : List Level) → lead x l ≤ length l
lead-le x [] = omega arith
lead-le x (y ∷ l) =
    let less = lead-le x l in
    elim (cases_Bool (same x y)) [
      | inl t ↦ rw t (omega (arith, less))
      | inr f ↦ rw f (omega arith)
    ]

-- nor is the first one
run-le : (l : List Level) → run l ≤ length l
run-le [] = omega arith
run-le (x ∷ l) = let less = lead-le x l in omega (arith, less)

-- five equal levels at the beginning
pub five-is : (l : List Level) → begins_in_five l ≡ nat_le 5 (run l)
unfolding begins_in_five
five-is [] = refl
five-is (a ∷ []) = refl
five-is (a ∷ b ∷ []) = sym (lt-leb 5 (run (a ∷ b ∷ [])) (omega (arith, run-le (a ∷ b ∷ []))))
five-is (a ∷ b ∷ c ∷ []) = sym (lt-leb 5 (run (a ∷ b ∷ c ∷ [])) (omega (arith, run-le (a ∷ b ∷ c ∷ []))))
five-is (a ∷ b ∷ c ∷ d ∷ []) = sym (lt-leb 5 (run (a ∷ b ∷ c ∷ d ∷ [])) (omega (arith, run-le (a ∷ b ∷ c ∷ d ∷ []))))
five-is (Dominant ∷ Dominant ∷ Dominant ∷ Dominant ∷ Dominant ∷ l) =
    sym (le-leb 5 (run (Dominant ∷ Dominant ∷ Dominant ∷ Dominant ∷ Dominant ∷ l)) (omega arith))
five-is (Dominant ∷ Dominant ∷ Dominant ∷ Dominant ∷ Recessive ∷ l) = refl
five-is (Dominant ∷ Dominant ∷ Dominant ∷ Recessive ∷ e ∷ l) = refl
five-is (Dominant ∷ Dominant ∷ Recessive ∷ d ∷ e ∷ l) = refl
five-is (Dominant ∷ Recessive ∷ c ∷ d ∷ e ∷ l) = refl
five-is (Recessive ∷ Recessive ∷ Recessive ∷ Recessive ∷ Recessive ∷ l) =
    sym (le-leb 5 (run (Recessive ∷ Recessive ∷ Recessive ∷ Recessive ∷ Recessive ∷ l)) (omega arith))
five-is (Recessive ∷ Recessive ∷ Recessive ∷ Recessive ∷ Dominant ∷ l) = refl
five-is (Recessive ∷ Recessive ∷ Recessive ∷ Dominant ∷ e ∷ l) = refl
five-is (Recessive ∷ Recessive ∷ Dominant ∷ d ∷ e ∷ l) = refl
five-is (Recessive ∷ Dominant ∷ c ∷ d ∷ e ∷ l) = refl

-- one level more
plain-push : (before : List Level) (x : Level) →
    plain (reverse before) ++ unless_stuff (is_full before) x ≡ plain (reverse (before ++ x ∷ []))
plain-push before x =
    let past = reverse before in
    let after : plain (reverse (before ++ x ∷ [])) ≡ plain (x ∷ past) = ap plain (reverse-push before x) in
    elim (cases_lt (run past) 5) [
      | inl few ↦
          let not_full : is_full before ≡ false = five-is past ∙ lt-leb 5 (run past) few in
          ap (λ b. plain past ++ unless_stuff b x) not_full ∙ sym (reverse-cons x (unstuffed past))
          ∙ sym (ap reverse (unstuffed-kept x past few)) ∙ sym after
      | inr many ↦
          let full : is_full before ≡ true = five-is past ∙ le-leb 5 (run past) many in
          ap (λ b. plain past ++ unless_stuff b x) full ∙ append-nil (plain past)
          ∙ sym (ap reverse (unstuffed-dropped x past many)) ∙ sym after
    ]

-- levels without their stuff bits, from the oldest on
pub plain_after-is : (before rest : List Level) →
    plain (reverse before) ++ plain_after before rest ≡ plain (reverse (before ++ rest))
plain_after-is before [] = append-nil (plain (reverse before)) ∙ sym (ap (λ l. plain (reverse l)) (append-nil before))
plain_after-is before (x ∷ rest) =
    let w = plain (reverse before) in
    sym (append_assoc w (unless_stuff (is_full before) x) (plain_after (before ++ x ∷ []) rest))
    ∙ ap (λ l. l ++ plain_after (before ++ x ∷ []) rest) (plain-push before x)
    ∙ plain_after-is (before ++ x ∷ []) rest
    ∙ ap (λ l. plain (reverse l)) (append_assoc before (x ∷ []) rest)

-- how many they are
pub plain_count-is : (l : List Level) → plain_count l ≡ length (unstuffed (reverse l))
plain_count-is l = ap length (plain_after-is [] l) ∙ length-reverse (unstuffed (reverse l))

-- RTR is among the first 33 levels, and a body has 19 at least
rtr_most : (ext : Bool) → rtr_place ext ≤ 32
rtr_most false = omega arith
rtr_most true = omega arith

-- past its stuffed part a line is past the arbitration field of either format
pub part_late : {f : FrameValue} {b c part : List Level} (ext : Bool) (after : List Level) → StuffedPart f b c part →
    rtr_place ext < plain_count (part ++ after)
part_late {f = f} {b = b} {c = c} {part = part} ext after h =
    let (e, later) = unstuffed-later (reverse after) (reverse part) in
    let form = stuffed_to (b ++ c) part h.stuffed in
    let all : unstuffed (reverse (part ++ after)) ≡ e ++ reverse (b ++ c) =
    ap unstuffed (reverse-append part after) ∙ later ∙ ap (λ l. e ++ l) form.unstuffs in
    let count = plain_count-is (part ++ after) ∙ ap length all ∙ length-append e (reverse (b ++ c)) in
    let body = length_body f b h.frame h.body in
    omega (arith, count, length-reverse (b ++ c), length-append b c, body, h.check, rtr_most ext, dlc_place-least f.ext)

-- the parts of a choice
chosen : (full within : Bool) (n code : ℕ) → (if full then None else if within then Some n else None) ≡ Some code →
    (full ≡ false) × (within ≡ true)
chosen true within n code e = cc
chosen false true n code e = (refl, refl)
chosen false false n code e = cc

-- a place with a code is no stuff bit, and not past RTR
pub code_early : (ext : Bool) (l : List Level) (code : ℕ) → place_code ext l ≡ Some code →
    (is_full l ≡ false) × (plain_count l ≤ rtr_place ext)
code_early ext l code e =
    let n = plain_count l in
    let parts = chosen (is_full l) (nat_lt 0 n && nat_le n (rtr_place ext)) (n - 1) code e in
    let within = and_parts (nat_lt 0 n) (nat_le n (rtr_place ext)) parts.1 in
    (parts.0, leb-true n (rtr_place ext) within.1)

-- an early stuff bit is a stuff bit, and not past RTR
pub stuff_early : (ext : Bool) (l : List Level) → IsTrue (is_early_stuff ext l) →
    (is_full l ≡ true) × (plain_count l ≤ rtr_place ext)
stuff_early ext l h =
    let parts = and_parts (is_full l) (nat_le (plain_count l) (rtr_place ext)) h in
    (parts.0, leb-true (plain_count l) (rtr_place ext) parts.1)

-- a choice that is none either way
none_by : (full more within : Bool) (n : ℕ) → within ≡ false →
    (if full then None else if more && within then Some n else None) ≡ None
none_by true more within n e = refl
none_by false true true n e = cc
none_by false true false n e = refl
none_by false false within n e = refl

-- past RTR no place has a code
pub late_no_code : (ext : Bool) (l : List Level) → rtr_place ext < plain_count l → place_code ext l ≡ None
late_no_code ext l late =
    let n = plain_count l in
    none_by (is_full l) (nat_lt 0 n) (nat_le n (rtr_place ext)) (n - 1) (lt-leb n (rtr_place ext) late)

-- nor is a stuff bit early there
pub late_no_stuff : (ext : Bool) (l : List Level) → rtr_place ext < plain_count l → is_early_stuff ext l ≡ false
late_no_stuff ext l late =
    and_right (is_full l) (nat_le (plain_count l) (rtr_place ext)) (lt-leb (plain_count l) (rtr_place ext) late)
