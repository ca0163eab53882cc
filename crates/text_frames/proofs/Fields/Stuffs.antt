-- A bit that stands after five equal levels in the part that is stuffed is a stuff bit of a line.
use Rattle.std.proofs.Common.{◌≡◌, ◌≢◌, ◌==◌, ◌&&◌, ◌⊎◌, inl, inr, ◌-◌, ◌<◌, ◌≤◌, ℕ, zero, suc, Bool, true, false}
use Rattle.std.proofs.Common.{if◌then◌else◌, List, [], ◌∷◌, ◌++◌, length, reverse, refl, sym, ap, ◌∙◌, subst, arith}
use Rattle.std.proofs.Common.{append_assoc}
use Rattle.std.specs.Prelude.{nat_lt}
use Rattle.std.proofs.lemmas.Bool.{cases_Bool, cases_lt, ne_eqb, and_right}
use Rattle.std.proofs.lemmas.List.{reverse-reverse}
use Rattle.can_levels.specs.declared.level.Level.{Level}
use Rattle.can_levels.specs.declared.level.Level.TheVariants.{Dominant, Recessive}
use Rattle.can_levels.specs.declared.segment.Segment.{Segment}
use Rattle.can_levels.specs.Fields.{says_ext, says_count}
use Rattle.can_levels.specs.Places.{are_same}
use Rattle.can_levels.specs.Segments.{IsNext, segment_in, segments_of, segment_at, segment_after}
use Rattle.can_levels.specs.Segments.IsNext.{bit, stuff_bit, after_part}
use Rattle.can_levels.specs.Stuffing.{EndsInEqual}
use Rattle.can_levels.proofs.Runs.{run, run-same, run-other, ends_in_run, run_ends}
use Rattle.lemmas.proofs.Lists.{reverse-cons}
use Rattle.text_frames.specs.declared.run.Run.{Run}
use Rattle.text_frames.specs.Fields.{field_of, is_stuffed}
use Rattle.text_frames.specs.FrameBits.{one_level, longer, run_on, run_of}

-- ---- the run of equal levels that ends a list, its newest level first

-- so many, and five where there are more
abbrev IsCapped : ℕ → ℕ → Type 0
IsCapped n many = ((n ≡ many) × (many ≤ 5)) ⊎ ((n ≡ 5) × (5 ≤ many))

record HasRun (r : Run) (past : List Level) : Type 0 where
  rest : List Level
  is : past ≡ r.last ∷ rest
  count : IsCapped r.count (run past)

longer_few : (n : ℕ) → n < 5 → longer n ≡ suc n
longer_few zero h = refl
longer_few (suc zero) h = refl
longer_few (suc (suc zero)) h = refl
longer_few (suc (suc (suc zero))) h = refl
longer_few (suc (suc (suc (suc zero)))) h = refl
longer_few (suc (suc (suc (suc (suc n))))) h = absurd (omega (arith, h))

longer_capped : (n many : ℕ) → IsCapped n many → IsCapped (longer n) (suc many)
longer_capped n many (inl (is, few)) =
    elim (cases_lt n 5) [
      | inl less ↦ inl (longer_few n less ∙ ap suc is, omega (arith, is, less))
      | inr past ↦ let five : n ≡ 5 = omega (arith, is, few, past) in inr (ap longer five, omega (arith, is, past))
    ]
longer_capped n many (inr (is, most)) = inr (ap longer is, omega (arith, most))

same_level : (x y : Level) → are_same x y ≡ true → x ≡ y
same_level Dominant Dominant h = refl
same_level Recessive Recessive h = refl
same_level Dominant Recessive h = cc
same_level Recessive Dominant h = cc

other_level : (x y : Level) → are_same x y ≡ false → x ≢ y
other_level Dominant Dominant h = cc
other_level Recessive Recessive h = cc
other_level Dominant Recessive h = λ e. cc
other_level Recessive Dominant h = λ e. cc

run_next : (r : Run) (past : List Level) (x : Level) → HasRun r past → HasRun (run_on r x) (x ∷ past)
run_next r past x h =
    elim (cases_Bool (are_same x r.last)) [
      | inl t ↦ record {
        rest = past;
        is = refl;
        count =
            let P : Bool → Type 0 = λ b. IsCapped (if b then longer r.count else 1) (run (x ∷ past)) in
            let is : run (x ∷ past) ≡ suc (run past) =
            ap (λ l. run (x ∷ l)) h.is ∙ ap (λ y. run (y ∷ r.last ∷ h.rest)) (same_level x r.last t)
            ∙ run-same r.last h.rest ∙ ap (λ l. suc (run l)) (sym h.is) in
            let Q : ℕ → Type 0 = λ many. IsCapped (longer r.count) many in
            subst P (sym t) (subst Q (sym is) (longer_capped r.count (run past) h.count));
      }
      | inr f ↦ record {
        rest = past;
        is = refl;
        count =
            let P : Bool → Type 0 = λ b. IsCapped (if b then longer r.count else 1) (run (x ∷ past)) in
            let is : run (x ∷ past) ≡ 1 =
            ap (λ l. run (x ∷ l)) h.is ∙ run-other x r.last h.rest (other_level x r.last f) in
            subst P (sym f) (inl (sym is, omega (arith, is)));
      }
    ]

run_all : (r : Run) (past l : List Level) → HasRun r past → HasRun (run_of r l) (reverse l ++ past)
run_all r past [] h = h
run_all r past (x ∷ l) h =
    let P : List Level → Type 0 = λ m. HasRun (run_of (run_on r x) l) m in
    let turned : reverse (x ∷ l) ++ past ≡ reverse l ++ (x ∷ past) =
    ap (λ m. m ++ past) (reverse-cons x l) ∙ append_assoc (reverse l) (x ∷ []) past in
    subst P (sym turned) (run_all (run_on r x) (x ∷ past) l (run_next r past x h))

run_from : (x : Level) (l : List Level) → HasRun (run_of (one_level x) l) (reverse (x ∷ l))
run_from x l =
    let P : List Level → Type 0 = λ m. HasRun (run_of (one_level x) l) m in
    let first : HasRun (one_level x) (x ∷ []) = record { rest = []; is = refl; count = inl (refl, omega arith) } in
    subst P (sym (reverse-cons x l)) (run_all (one_level x) (x ∷ []) l first)

-- ---- five

full_by : (n many : ℕ) → IsCapped n many → 5 ≤ many → (n == 5) ≡ true
full_by n many (inl (is, few)) most = let five : n ≡ 5 = omega (arith, is, few, most) in ap (λ (k : ℕ). k == 5) five
full_by n many (inr (is, more)) most = ap (λ (k : ℕ). k == 5) is

few_by : (n many : ℕ) → IsCapped n many → many < 5 → (n == 5) ≡ false
few_by n many (inl (is, few)) less = ne_eqb n 5 (λ five. omega (arith, is, less, five))
few_by n many (inr (is, more)) less = absurd (omega (arith, more, less))

full_count : (x : Level) (l : List Level) → EndsInEqual 5 (x ∷ l) → ((run_of (one_level x) l).count == 5) ≡ true
full_count x l ends =
    let E : List Level → Type 0 = λ m. EndsInEqual 5 m in
    full_by (run_of (one_level x) l).count (run (reverse (x ∷ l))) (run_from x l).count
    (ends_in_run 4 (reverse (x ∷ l)) (subst E (sym (reverse-reverse (x ∷ l))) ends))

few_count : (x : Level) (l : List Level) → ¬ EndsInEqual 5 (x ∷ l) → ((run_of (one_level x) l).count == 5) ≡ false
few_count x l fewer_end =
    let E : List Level → Type 0 = λ m. EndsInEqual 5 m in
    elim (cases_lt (run (reverse (x ∷ l))) 5) [
      | inl less ↦ few_by (run_of (one_level x) l).count (run (reverse (x ∷ l))) (run_from x l).count less
      | inr past ↦ absurd (fewer_end (subst E (reverse-reverse (x ∷ l)) (run_ends 5 (reverse (x ∷ l)) past)))
    ]

-- ---- the part that is stuffed

abbrev AllStuffed : List (ℕ × Segment) → Type 0
AllStuffed [] = Unit {0}
AllStuffed (row ∷ rows) = (is_stuffed (field_of (row.1)) ≡ true) × AllStuffed rows

stuffed_in : (rows : List (ℕ × Segment)) (place : ℕ) → AllStuffed rows →
    is_stuffed (field_of (segment_in rows place)) ≡ true
stuffed_in [] place all = refl
stuffed_in (row ∷ rows) place all =
    elim (cases_Bool (nat_lt place (row.0))) [
      | inl t ↦ rw t (all.0)
      | inr f ↦ rw f (stuffed_in rows place all.1)
    ]

stuffed_of : (ext : Bool) (count place : ℕ) → is_stuffed (field_of (segment_in (segments_of ext count) place)) ≡ true
stuffed_of false count place =
    stuffed_in (segments_of false count) place (refl, (refl, (refl, (refl, (refl, (refl, (refl, (refl, tt))))))))
stuffed_of true count place =
    stuffed_in (segments_of true count) place
    (refl, (refl, (refl, (refl, (refl, (refl, (refl, (refl, (refl, (refl, (refl, (refl, (refl, tt)))))))))))))

plain_after : (n : ℕ) → is_stuffed (field_of (segment_after n)) ≡ false
plain_after zero = refl
plain_after (suc zero) = refl
plain_after (suc (suc zero)) = refl
plain_after (suc (suc (suc n))) = refl

-- ---- both

pub stuff_is_due : (x : Level) (l : List Level) (segment : Segment) (stuff : Bool) → IsNext (x ∷ l) segment stuff →
    stuff ≡ (is_stuffed (field_of segment) && ((run_of (one_level x) l).count == 5))
stuff_is_due x l segment stuff (bit w unstuffed few inside) =
    sym (and_right (is_stuffed (field_of (segment_at w (length w)))) ((run_of (one_level x) l).count == 5)
    (few_count x l few))
stuff_is_due x l segment stuff (stuff_bit w unstuffed five inside) =
    sym (ap (λ b. b && ((run_of (one_level x) l).count == 5)) (stuffed_of (says_ext w) (says_count w) (length w - 1))
    ∙ full_count x l five)
stuff_is_due x l segment stuff (after_part part after is_part whole) =
    sym (ap (λ b. b && ((run_of (one_level x) l).count == 5)) (plain_after (length after)))
