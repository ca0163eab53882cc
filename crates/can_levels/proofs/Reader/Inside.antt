-- A reader in the stuffed part.
use Rattle.std.proofs.Common.{◌≡◌, ◌≢◌, ◌+◌, ◌-◌, ◌≤◌, ℕ, true, false, List}
use Rattle.std.proofs.Common.{[], ◌∷◌, ◌++◌, length, reverse, refl, ap, sym, subst, ◌∙◌, arith}
use Rattle.std.proofs.lemmas.List.{append-nil, reverse-reverse, nil_from_length}
use Rattle.can_levels.specs.declared.level.Level.{Level}
use Rattle.can_levels.specs.declared.level.Level.TheVariants.{Recessive}
use Rattle.can_levels.specs.declared.segment.Segment.{Segment}
use Rattle.can_levels.specs.declared.line_fault.LineFault.TheVariants.{Stuff, Form}
use Rattle.can_levels.specs.Stuffing.{EndsInEqual, HasNoSixEqual, IsUnstuffed}
use Rattle.can_levels.specs.Line.{tail}
use Rattle.can_levels.specs.Reading.{Begins, IsPastPart}
use Rattle.can_levels.specs.Segments.{IsNext, segment_at}
use Rattle.can_levels.specs.Segments.IsNext.{bit, stuff_bit}
use Rattle.can_levels.specs.declared.frame_place.FramePlace.TheVariants.{Plain, StuffBit}
use Rattle.can_levels.specs.FramePlaces.{IsNextPlace, index_at}
use Rattle.can_levels.specs.FramePlaces.IsNextPlace.{plain as plain_place, stuff_bit as stuff_place}
use Rattle.can_levels.specs.Streaming.{IsOver, BreaksWith}
use Rattle.can_levels.specs.PartSoFar.{EndsInRun, IsPartSoFar, BeginsPart}
use Rattle.can_levels.specs.PartSoFar.EndsInRun.{nothing, longer, other}
use Rattle.lemmas.proofs.Lists.{reverse-push}
use Rattle.can_levels.proofs.Runs.{run, IsShort, ends_in_run, run_ends, short_from, no_six_from}
use Rattle.can_levels.proofs.Stuffs.{unstuffed_by, is_unstuffed, Leads, run-leads, lead-same, lead-other}
use Rattle.can_levels.proofs.Going.{IsInside as GoesOn}
use Rattle.can_levels.proofs.Ending.{inside_not_past, no_sixth, no_start}
use Rattle.can_levels.proofs.Whole.Steps.{Holds, IsBefore, inside_of}

-- the last run, newest level first
leads_by : {x : Level} {n : ℕ} {l : List Level} → EndsInRun x n l → Leads x n (reverse l)
leads_by (nothing x) = refl
leads_by (longer {x = x} {n = n} {l = l} h e) =
    let P : List Level → Type 0 = λ m. Leads x (n + 1) m in
    subst P (sym (ap reverse e ∙ reverse-push l x)) (refl, sym (lead-same x n (reverse l) (leads_by h)))
leads_by (other {x = x} {n = n} {l = l} y h differs e) =
    let P : List Level → Type 0 = λ m. Leads y 1 m in
    subst P (sym (ap reverse e ∙ reverse-push l y)) (refl, sym (lead-other x y n (reverse l) (leads_by h) differs))

-- the first run of a short list has 5 levels at most
short_run : (past : List Level) → IsShort past → run past ≤ 5
short_run [] h = omega arith
short_run (x ∷ past) h = h.0

-- the levels so far, newest first
pub holds_by : {l w : List Level} {last : Level} {n : ℕ} → IsPartSoFar l w last n → Holds (reverse l) w last n
holds_by {l = l} {w = w} {last = last} {n = n} h =
    let P : List Level → Type 0 = λ m. HasNoSixEqual m in
    let short : IsShort (reverse l) = short_from (reverse l) (subst P (sym (reverse-reverse l)) h.no_six) in
    let leads = leads_by h.ends in
    record {
      short = short;
      begins = h.begins;
      fits = h.fits;
      plain_is = sym (reverse-reverse w) ∙ ap reverse (sym (unstuffed_by h.unstuffed));
      leads = leads;
      most = omega (arith, run-leads last n (reverse l) leads, short_run (reverse l) short);
    }

pub before_by : {l w : List Level} {last : Level} {n : ℕ} → BeginsPart l w last n → IsBefore w n
before_by h = record { goes_on = h.goes_on }

pub goes_by : {l w : List Level} {last : Level} {n : ℕ} → BeginsPart l w last n → GoesOn (reverse l)
goes_by {l = l} {w = w} {last = last} {n = n} h = inside_of (reverse l) w last n (holds_by h.so_far) (before_by h)

-- no whole part has come
pub not_past : {l w : List Level} {last : Level} {n : ℕ} → BeginsPart l w last n → ¬ IsPastPart l
not_past {l = l} h = inside_not_past l (goes_by h)

-- and the other way round
pub so_far_by : {l w : List Level} {last : Level} {n : ℕ} → Holds (reverse l) w last n → EndsInRun last n l →
    IsPartSoFar l w last n
so_far_by {l = l} {w = w} h ends =
    let P : List Level → Type 0 = λ m. HasNoSixEqual m in
    let Q : List Level → Type 0 = λ m. IsUnstuffed m (reverse (reverse l)) in
    let R : List Level → Type 0 = λ m. IsUnstuffed w m in
    record {
      no_six = subst P (reverse-reverse l) (no_six_from (reverse l) h.short);
      unstuffed = subst R (reverse-reverse l) (subst Q (sym h.plain_is) (is_unstuffed (reverse l)));
      ends = ends;
      begins = h.begins;
      fits = h.fits;
    }

-- five equal levels end the list, or fewer
five : {l w : List Level} {last : Level} {n : ℕ} → BeginsPart l w last n → n ≡ 5 → EndsInEqual 5 l
five {l = l} {last = last} {n = n} h full =
    let counted = run-leads last n (reverse l) (leads_by h.so_far.ends) in
    subst (EndsInEqual 5) (reverse-reverse l) (run_ends 5 (reverse l) (omega (arith, counted, full)))

few : {l w : List Level} {last : Level} {n : ℕ} → BeginsPart l w last n → n ≢ 5 → ¬ EndsInEqual 5 l
few {l = l} {last = last} {n = n} h less = λ ends.
    let most = (holds_by h.so_far).most in
    let counted = run-leads last n (reverse l) (leads_by h.so_far.ends) in
    let many = ends_in_run 4 (reverse l) (subst (EndsInEqual 5) (sym (reverse-reverse l)) ends) in
    less (omega (arith, counted, most, many))

-- the segment of the next level
pub next_bit : {l w : List Level} {last : Level} {n : ℕ} → BeginsPart l w last n → n ≢ 5 →
    IsNext l (segment_at w (length w)) false
next_bit {w = w} h less = bit w h.so_far.unstuffed (few h less) (not_past h)

pub next_stuff_bit : {l w : List Level} {last : Level} {n : ℕ} → BeginsPart l w last n → n ≡ 5 →
    IsNext l (segment_at w (length w - 1)) true
next_stuff_bit {w = w} h full = stuff_bit w h.so_far.unstuffed (five h full) (not_past h)

-- its place
pub next_plain_place : {l w : List Level} {last : Level} {n : ℕ} (segment : Segment) (index : ℕ) →
    BeginsPart l w last n → n ≢ 5 → segment ≡ segment_at w (length w) → index ≡ index_at w (length w) →
    IsNextPlace l (Plain segment index)
next_plain_place {l = l} {w = w} segment index h less is at =
    rw (is, at) (plain_place w h.so_far.unstuffed (few h less) (not_past h))

pub next_stuff_place : {l w : List Level} {last : Level} {n : ℕ} (number : ℕ) → BeginsPart l w last n → n ≡ 5 →
    number ≡ length l - length w + 1 → IsNextPlace l (StuffBit number)
next_stuff_place {l = l} {w = w} number h full is =
    rw is (stuff_place w h.so_far.unstuffed (five h full) (not_past h))

-- a whole line hasn't come
not_over : {l w : List Level} {last : Level} {n : ℕ} → BeginsPart l w last n → ¬ IsOver l
not_over {l = l} h = λ over.
    let but = over.1 in
    let none = nil_from_length but.rest but.count in
    let P : List Level → Type 0 = λ r. l ++ r ≡ but.line.part ++ tail but.ack in
    not_past h (record {
      frame = over.0;
      body = but.body;
      check = but.check;
      part = but.line.part;
      rest = tail but.ack;
      is_part = but.line.is_part;
      whole = sym (append-nil l) ∙ subst P none but.line.whole;
    })

-- a recessive SOF
pub wrong_start : {l w : List Level} {last : Level} {n : ℕ} (x : Level) (at : ℕ) → BeginsPart l w last n →
    at ≡ length l → at ≡ 0 → x ≡ Recessive → BreaksWith l x (Form 0)
wrong_start {l = l} x at h count first recessive =
    let none : l ≡ [] = nil_from_length l (omega (arith, count, first)) in
    let P : List Level → Type 0 = λ m. ¬ Begins m in (
      subst P (sym (ap (λ m. m ++ x ∷ []) none ∙ ap (λ y. y ∷ []) recessive)) (no_start []),
      (λ inside. inside.begun none),
      not_over h,
      omega (arith, count, first),
    )

-- a sixth equal level
pub wrong_sixth : {l w : List Level} {last : Level} {n : ℕ} (x : Level) (at : ℕ) → BeginsPart l w last n →
    at ≡ length l → n ≡ 5 → x ≡ last → BreaksWith l x (Stuff at)
wrong_sixth {l = l} {w = w} {last = last} {n = n} x at h count full like =
    let leads = leads_by h.so_far.ends in
    let counted = run-leads last n (reverse l) leads in
    let six : run (x ∷ reverse l) ≡ 6 =
    ap (λ y. run (y ∷ reverse l)) like ∙ lead-same last n (reverse l) leads ∙ omega (arith, full) in (
      no_sixth l x (goes_by h) (omega (arith, six)),
      record {
        begun = λ none. let wrong = ap (λ m. run (reverse m)) none in omega (arith, wrong, counted, full);
        before_end = not_past h;
      },
      count,
    )
