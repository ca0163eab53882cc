-- A level more of the stuffed part.
use Rattle.std.proofs.Common.{◌≡◌, ◌≢◌, ◌+◌, ◌*◌, ◌<◌, ◌≤◌, ◌⊎◌, inl, inr, ℕ, None, List, [], ◌∷◌, ◌++◌}
use Rattle.std.proofs.Common.{length, reverse, take, refl, ap, sym, subst, ◌∙◌, arith, append_assoc}
use Rattle.std.proofs.lemmas.Bool.{cases_lt, cases_eq}
use Rattle.std.proofs.lemmas.List.{append-nil, length-append, length-reverse, reverse-reverse, length-take-le}
use Rattle.can_frame.specs.Frame.{FrameValue}
use Rattle.can_levels.specs.declared.level.Level.{Level}
use Rattle.can_levels.specs.declared.level.Level.TheVariants.{Dominant, Recessive}
use Rattle.can_bits.specs.declared.body_word.BodyWord.{BodyWord}
use Rattle.can_levels.specs.Fields.{says_count}
use Rattle.can_levels.specs.Line.{StuffedPart, tail}
use Rattle.can_levels.specs.Spelling.{Spells}
use Rattle.can_levels.specs.Streaming.{IsReadable, ShowsFrame}
use Rattle.can_bits.specs.Inside.Gathering.{Gathers}
use Rattle.can_levels.specs.PartSoFar.{EndsInRun, IsPartSoFar, BeginsPart}
use Rattle.can_bits.specs.Inside.FrameParts.{IsInside, IsPast}
use Rattle.can_levels.specs.PartSoFar.EndsInRun.{longer, other}
use Rattle.lemmas.proofs.Lists.{reverse-push, fronts, append-cancel}
use Rattle.can_levels.proofs.Runs.{run, run-same, run-other, run_one_more, IsShort}
use Rattle.can_levels.proofs.Stuffs.{unstuffed, unstuffed-kept, unstuffed-dropped, run-leads}
use Rattle.can_levels.proofs.Parts.{plain, part_of, part_to}
use Rattle.can_levels.proofs.Whole.Decoding.{decoded}
use Rattle.can_levels.proofs.Going.{inside_open}
use Rattle.can_levels.proofs.Whole.Steps.{Holds, Holds-next, says_count-most}
use Rattle.can_levels.proofs.Reader.Inside.{holds_by, before_by, goes_by, not_past, so_far_by}
use Rattle.can_levels.proofs.Readables.{open_readable}

-- two levels are equal or not
pub levels_equal : (x y : Level) → (x ≡ y) ⊎ (x ≢ y)
levels_equal Dominant Dominant = inl refl
levels_equal Recessive Recessive = inl refl
levels_equal Dominant Recessive = inr (λ h. cc)
levels_equal Recessive Dominant = inr (λ h. cc)

-- after five equal levels another one comes, and begins a run
starts_anew : (x : Level) (past : List Level) → 5 ≤ run past → run (x ∷ past) ≤ 5 → run (x ∷ past) ≤ 1
starts_anew x [] many short = omega arith
starts_anew x (y ∷ past) many short =
    elim (levels_equal x y) [
      | inl same ↦ let long = ap (λ z. run (z ∷ y ∷ past)) same ∙ run-same y past in absurd (omega (arith, long))
      | inr differs ↦ let one = run-other x y past differs in omega (arith, one)
    ]

-- stuff bits are at most one for each four other levels
few_levels : (past : List Level) → IsShort past → 4 * length past + run past ≤ 5 * length (unstuffed past)
few_levels [] h = omega arith
few_levels (x ∷ past) h =
    let before = few_levels past h.1 in
    let short = h.0 in
    let more = run_one_more x past in
    elim (cases_lt (run past) 5) [
      | inl less ↦ let kept = ap length (unstuffed-kept x past less) in omega (arith, before, more, kept)
      | inr many ↦ let dropped = ap length (unstuffed-dropped x past many) in
          let one : run (x ∷ past) ≤ 1 = starts_anew x past many short in
          omega (arith, before, dropped, one)
    ]

-- how many levels have come before a stuffed part's end
pub count_small : {l w : List Level} {last : Level} {n : ℕ} → IsPartSoFar l w last n → length l < 150
count_small {l = l} {w = w} h =
    let holds = holds_by h in
    let few = few_levels (reverse l) holds.short in
    let fits = h.fits in
    let same : length (unstuffed (reverse l)) ≡ length w =
    sym (length-reverse (unstuffed (reverse l))) ∙ ap length (sym holds.plain_is) in
    omega (arith, few, same, fits, says_count-most w, length-reverse l)

-- and until the whole line has come
pub past_small : {g : BodyWord} {came : ℕ} (n : ℕ) (l : List Level) → IsPast n g came l → came < 200
past_small n l h =
    let part = part_to h.is_part in
    let few = few_levels (reverse h.part) part.short in
    let count = part.whole.count in
    let same : length (unstuffed (reverse h.part)) ≡ length (plain (reverse h.part)) =
    sym (length-reverse (unstuffed (reverse h.part))) in
    let after : length (take n (tail h.ack)) ≡ n = length-take-le n (tail h.ack) h.within in
    let within = h.within in
    let came = h.count in
    omega (
      arith,
      few,
      same,
      count,
      says_count-most (plain (reverse h.part)),
      length-reverse h.part,
      ap length h.whole,
      length-append h.part (take n (tail h.ack)),
      after,
    )

-- a level more
pub so_far_next : {l w : List Level} {last : Level} {n : ℕ} (v : List Level) (x : Level) (m : ℕ) →
    BeginsPart l w last n → (l ≡ [] → x ≡ Dominant) → (n ≡ 5 → x ≢ last) →
    ((n ≢ 5) × (v ≡ w ++ x ∷ [])) ⊎ ((n ≡ 5) × (v ≡ w)) → (x ≡ last → n < 5 → m ≡ n + 1) → (x ≢ last → m ≡ 1) →
    IsPartSoFar (l ++ x ∷ []) v x m
so_far_next {l = l} {w = w} {last = last} {n = n} v x m h first differs kept same fresh =
    let holds = holds_by h.so_far in
    let most = holds.most in
    let counted : ((x ≡ last) × (m ≡ n + 1)) ⊎ ((x ≢ last) × (m ≡ 1)) =
    elim (levels_equal x last) [
      | inl like ↦
          inl (
            like,
            same like (elim (cases_eq n 5) [
              | inl full ↦ absurd (differs full like)
              | inr less ↦
                  omega (arith, less)
            ]),
          )
      | inr unlike ↦ inr (unlike, fresh unlike)
    ] in
    let kept_ : ((n < 5) × (v ≡ w ++ x ∷ [])) ⊎ ((n ≡ 5) × (v ≡ w)) =
    elim kept [ inl bit ↦ let less = bit.0 in inl (omega (arith, less), bit.1) | inr stuff ↦ inr stuff ] in
    let next = Holds-next (reverse l) w v last x n m holds (before_by h)
    (λ none. first (sym (reverse-reverse l) ∙ ap reverse none)) kept_ counted differs in
    let P : List Level → Type 0 = λ past. Holds past v x m in
    let ends : EndsInRun x m (l ++ x ∷ []) =
    elim counted [
      | inl like ↦
          let A : Level → Type 0 = λ y. EndsInRun y n l in
          let B : ℕ → Type 0 = λ k. EndsInRun x k (l ++ x ∷ []) in
          subst B (sym like.1) (longer (subst A (sym like.0) h.so_far.ends) refl)
      | inr unlike ↦
          let B : ℕ → Type 0 = λ k. EndsInRun x k (l ++ x ∷ []) in
          subst B (sym unlike.1) (other x h.so_far.ends unlike.0 refl)
    ] in
    so_far_by (subst P (sym (reverse-push l x)) next) ends

-- the part is whole
pub whole_here : {g : BodyWord} {came : ℕ} {l w : List Level} {last : Level} {n : ℕ} → IsPartSoFar l w last n → n ≢ 5 →
    length w ≡ says_count w → Gathers g w → came ≡ length l →
    IsPast 0 g came l
whole_here {g = g} {l = l} {w = w} {last = last} {n = n} h less full gathers count =
    let holds = holds_by h in
    let most = holds.most in
    let (f, b, c, spells) = decoded w (record { begins = h.begins; count = full }) in
    let closed : run (reverse l) < 5 = omega (arith, run-leads last n (reverse l) holds.leads, less) in
    let P : List Level → Type 0 = λ v. Spells f b c v in
    let Q : List Level → Type 0 = λ s. StuffedPart f b c s in
    let R : List Level → Type 0 = λ v. Gathers g v in
    record {
      frame = f;
      body = b;
      check = c;
      part = l;
      ack = Dominant;
      is_part = subst Q (reverse-reverse l) (part_of (reverse l) holds.short closed (subst P holds.plain_is spells));
      whole = sym (append-nil l);
      within = omega arith;
      right = λ three. absurd (omega (arith, three));
      gathers = subst R spells.whole gathers;
      count = count;
    }

-- the part goes on
pub part_here : {g : BodyWord} {came : ℕ} {l w : List Level} {last : Level} {n : ℕ} → IsPartSoFar l w last n →
    (n ≢ 5 → length w ≡ says_count w → ⊥) → Gathers g w → came ≡ length l →
    IsInside g came last n l
part_here {w = w} {n = n} h on gathers count = record {
  bits = w;
  part = record {
    so_far = h;
    goes_on = λ full. elim (cases_eq n 5)
        [ inl five ↦ omega (arith, five) | inr less ↦ absurd (on less full) ];
  };
  gathers = gathers;
  count = count;
}

-- what goes on is right so far
pub inside_readable : {g : BodyWord} {came : ℕ} {last : Level} {n : ℕ} (l : List Level) → IsInside g came last n l →
    IsReadable l
inside_readable l h = open_readable l (inside_open l (goes_by h.part))

-- in a stuffed part that goes on, more than ten levels are missing
not_but_one : {f : FrameValue} {b c l w : List Level} {last : Level} {n : ℕ} (part rest after : List Level) →
    BeginsPart l w last n → StuffedPart f b c part →
    l ++ rest ≡ part ++ after → length rest < length after → ⊥
not_but_one {f = f} {b = b} {c = c} {l = l} part rest after h is_part whole short =
    elim (fronts l part rest after whole) [
      | inl within ↦
          let left : rest ≡ within.0 ++ after =
          append-cancel l rest (within.0 ++ after)
          (whole ∙ ap (λ p. p ++ after) within.1 ∙ append_assoc l within.0 after) in
          omega (arith, short, ap length left, length-append within.0 after)
      | inr shorter ↦
          not_past h (record {
            frame = f;
            body = b;
            check = c;
            part = part;
            rest = shorter.0;
            is_part = is_part;
            whole = shorter.1;
          })
    ]

-- and no frame has come
pub inside_hides : {g : BodyWord} {came : ℕ} {last : Level} {n : ℕ} (l : List Level) → IsInside g came last n l →
    ShowsFrame l None
inside_hides l h = record {
  some = tt;
  only = λ f but.
      let one = but.count in
      absurd (not_but_one but.line.part but.rest (tail but.ack) h.part but.line.is_part but.line.whole
      (omega (arith, one)));
}
