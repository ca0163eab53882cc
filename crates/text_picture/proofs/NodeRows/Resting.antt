-- Rows past bits in which nodes rest.
use Rattle.std.proofs.Common.{◌≡◌, ◌⊎◌, inl, inr, ℕ, ◌+◌, ◌-◌, ◌<◌, ◌≤◌, zero, suc, Bool, true, false}
use Rattle.std.proofs.Common.{if◌then◌else◌, Option, Some, None, List, [], ◌∷◌, ◌++◌, map, take, codes}
use Rattle.std.proofs.Common.{refl, sym, ap, ap₂, ◌∙◌, subst, append-nil, append_assoc, arith}
use Rattle.std.specs.Prelude.{nat_lt, slice_get, option_map}
use Rattle.std.specs.List.{range_with_len, repeat}
use Rattle.std.proofs.lemmas.Bool.{cases_Bool, cases_lt}
use Rattle.std.proofs.lemmas.Bool.Decides.{nat_tests}
use Rattle.can_levels.specs.declared.level.Level.{Level}
use Rattle.can_levels.specs.declared.level.Level.TheVariants.{Recessive}
use Rattle.can_levels.specs.declared.segment.Segment.{Segment}
use Rattle.can_levels.specs.Places.{are_same}
use Rattle.can_node_rules.specs.declared.flag_kind.FlagKind.{FlagKind}
use Rattle.can_node_rules.specs.declared.phase.Phase.{Phase}
use Rattle.can_node_rules.specs.declared.phase.Phase.TheVariants.{Reset, Idle}
use Rattle.lemmas.specs.Gathering.{gathered}
use Rattle.lemmas.specs.Related.{EachRelated}
use Rattle.lemmas.proofs.Ranges.{gathered_from, gathered_before}
use Rattle.text_frames.specs.declared.run.Run.{Run}
use Rattle.text_frames.specs.FrameBits.{longer, run_on}
use Rattle.sja_replay.specs.declared.bit_event.BitEvent.{BitEvent}
use Rattle.text_trace.specs.declared.node_trace.NodeTrace.{NodeTrace}
use Rattle.text_trace.specs.TraceText.{driven_in}
use Rattle.can_levels.specs.BusLevel.{wired}
use Rattle.text_picture.specs.declared.node_rows.NodeRows.{NodeRows}
use Rattle.text_picture.specs.EqualLevels.{is_after_five}
use Rattle.text_picture.specs.Rows.{level_sign, bus_in, driven_sign, letter_if, letter_in}
use Rattle.text_picture.specs.Drawing.{run_past, run_after, shown_letter, AreRows, EachBeside}
use Rattle.text_picture.specs.Inside.PictureRest.{rest_run, phase_sign, rest_letter, PassesRest, Rests, IsResting}
use Rattle.text_picture.specs.Inside.PictureRest.{AreResting}
use Rattle.text_picture.proofs.NodeRows.Copies.{repeat_more}
use Rattle.text_picture.proofs.NodeRows.Hands.{hand_run_is, short_same}
use Rattle.text_picture.proofs.NodeRows.Runs.{run_next}

-- ---- the run of equal levels

longer_is : (n : ℕ) → ((n < 5) × (longer n ≡ n + 1)) ⊎ ((5 ≤ n) × (longer n ≡ 5))
longer_is n = elim (cases_lt n 5) [
  | inl less ↦ inl (
    less,
    (let yes : nat_lt n 5 ≡ true = grind (arith, nat_tests) in
        ap (λ (b : Bool). if b then n + 1 else 5) yes),
  )
  | inr most ↦ inr (
    most,
    (let no : nat_lt n 5 ≡ false = grind (arith, nat_tests) in
        ap (λ (b : Bool). if b then n + 1 else 5) no),
  )
]

-- past so many recessive bits
abbrev runs_on : ℕ → Run → Run
runs_on zero r = r
runs_on (suc n) r = run_on (runs_on n r) Recessive

record Grows (n count : ℕ) : Type 0 where
  most : count ≤ 5
  least : n ≤ 4 → n < count
  full : 4 ≤ n → count ≡ 5

grows : (n : ℕ) (r : Run) → Grows n (runs_on (suc n) r).count
grows zero r = elim (cases_Bool (are_same Recessive r.last)) [
  | inl same ↦ subst (λ (b : Bool). Grows 0 (if b then longer r.count else 1)) (sym same) (elim (longer_is r.count) [
    | inl few ↦ let less = few.0 in let is = few.1 in
        record { most = omega (arith, less, is); least = λ h. omega (arith, is); full = λ h. absurd (omega (arith, h)) }
    | inr many ↦ let is = many.1 in
        record { most = omega (arith, is); least = λ h. omega (arith, is); full = λ h. is }
  ])
  | inr other ↦ subst (λ (b : Bool). Grows 0 (if b then longer r.count else 1)) (sym other)
      (record { most = omega arith; least = λ h. omega arith; full = λ h. absurd (omega (arith, h)) })
]
grows (suc n) r =
    let count = (runs_on (suc n) r).count in
    let g = grows n r in
    let top = g.most in
    elim (longer_is count) [
      | inl few ↦ let less = few.0 in let is = few.1 in record {
        most = omega (arith, less, is);
        least = λ h. (let low = g.least (omega (arith, h)) in omega (arith, low, is));
        full = λ h. elim (cases_lt n 4) [
          | inl early ↦ let low = g.least (omega (arith, early)) in omega (arith, h, low, less, is, early)
          | inr late ↦ let is_five = g.full late in absurd (omega (arith, is_five, less))
        ];
      }
      | inr many ↦ let is = many.1 in
          record { most = omega (arith, is); least = λ h. omega (arith, h, is); full = λ h. is }
    ]

full_run : (n : ℕ) (r : Run) → 5 ≤ n → runs_on n r ≡ (let x : Run = record { last = Recessive; count = 5 } in x)
full_run zero r many = absurd (omega (arith, many))
full_run (suc n) r many =
    ap (λ (c : ℕ). let x : Run = record { last = Recessive; count = c } in x) ((grows n r).full (omega (arith, many)))

some_runs : ℕ → Option Run → Option Run
some_runs zero r = r
some_runs (suc n) r = option_map (λ (run : Run). run_on run Recessive) (some_runs n r)

runs_is : (n : ℕ) (r : Run) → some_runs n (Some r) ≡ Some (runs_on n r)
unfolding some_runs
runs_is zero r = refl
runs_is (suc n) r = ap (option_map (λ (run : Run). run_on run Recessive)) (runs_is n r)

no_run : (n : ℕ) → some_runs n None ≡ None
unfolding some_runs
no_run zero = refl
no_run (suc n) = ap (option_map (λ (run : Run). run_on run Recessive)) (no_run n)

rest_is : (n : ℕ) (r : Option Run) → 5 ≤ n → some_runs n r ≡ rest_run r
rest_is n None many = no_run n
rest_is n (Some r) many = runs_is n r ∙ ap (λ (x : Run). Some x) (full_run n r many)

-- ---- a node that rests in each of so many bits

module _ (bit n : ℕ) (t : NodeTrace) (hs : List BitEvent) (rest : IsResting bit n t hs) where
  past_one : (i : ℕ) (r : Option Run) → bit ≤ i → i < bit + n →
      run_past r (slice_get hs i) ≡ option_map (λ (run : Run). run_on run Recessive) r
  past_one i r from less =
      sym (hand_run_is r (Some rest.short) None (slice_get hs i) (rest.bits i from less))
      ∙ ap (λ (l : Level). option_map (λ (run : Run). run_on run l) r) rest.seen

  past_some : (m : ℕ) → m ≤ n → run_after (take (bit + m) hs) ≡ some_runs m (run_after (take bit hs))
  unfolding some_runs
  past_some zero few =
      let none : bit + 0 ≡ bit = omega arith in ap (λ (k : ℕ). run_after (take k hs)) none
  past_some (suc m) few =
      let one : bit + suc m ≡ suc (bit + m) = omega arith in
      ap (λ (k : ℕ). run_after (take k hs)) one ∙ sym (run_next hs (bit + m))
      ∙ past_one (bit + m) (run_after (take (bit + m) hs)) (omega arith) (omega (arith, few))
      ∙ ap (option_map (λ (run : Run). run_on run Recessive)) (past_some m (omega (arith, few)))

  run_rests : (r : Option Run) → 5 ≤ n → r ≡ run_after (take bit hs) → rest_run r ≡ run_after (take (bit + n) hs)
  run_rests r many is =
      ap rest_run is ∙ sym (rest_is n (run_after (take bit hs)) many) ∙ sym (past_some n (omega arith))

  -- it drives recessive
  drives_none : (i : ℕ) → bit ≤ i → i < bit + n → driven_in (slice_get hs i) ≡ Recessive
  drives_none i from less =
      let b = rest.bits i from less in ap driven_in b.is ∙ b.short.driven ∙ rest.driven

  -- and has one letter
  calm_letter : (after_five : Bool) (p : Phase) (s : Option Segment) (f : FlagKind) → (p ≡ Reset) ⊎ (p ≡ Idle) →
      shown_letter p after_five s f ≡ phase_sign p
  calm_letter after_five p s f calm = elim calm [
    | inl reset ↦ ap (λ x. shown_letter x after_five s f) reset ∙ sym (ap phase_sign reset)
    | inr idle ↦ ap (λ x. shown_letter x after_five s f) idle ∙ sym (ap phase_sign idle)
  ]

  one_letter : (bus : ℕ → Level) (i : ℕ) → bit ≤ i → i < bit + n → bus i ≡ Recessive →
      letter_in bus hs i ≡ rest_letter t.short
  one_letter bus i from less recessive =
      let b = rest.bits i from less in
      let q = rest.short in
      let full = is_after_five (take i hs) in
      let shown = shown_letter q.phase full q.segment q.flag in
      ap (letter_if (bus i) (take i hs)) b.is ∙ short_same (bus i) full b.happened q b.short
      ∙ ap₂ (λ (s l : Level). if are_same s l then shown else codes "x") rest.seen recessive
      ∙ calm_letter full q.phase q.segment q.flag rest.calm ∙ sym (ap rest_letter rest.short_is)

-- ---- rows

-- what is gathered of so many more numbers that all give the same
pub same_more : (f : ℕ → List ℕ) (start bit n : ℕ) (x : List ℕ) → start ≤ bit →
    ((i : ℕ) → bit ≤ i → i < bit + n → f i ≡ x) →
    gathered f (range_with_len start (bit - start)) ++ repeat n x
    ≡ gathered f (range_with_len start ((bit + n) - start))
same_more f start bit zero x reached same =
    let none : bit ≡ bit + 0 = omega arith in
    append-nil (gathered f (range_with_len start (bit - start)))
    ∙ ap (λ (k : ℕ). gathered f (range_with_len start (k - start))) none
same_more f start bit (suc n) x reached same =
    let before = gathered f (range_with_len start (bit - start)) in
    let one : (bit + n) + 1 ≡ bit + suc n = omega arith in
    ap (λ l. before ++ l) (sym (repeat_more n x)) ∙ sym (append_assoc before (repeat n x) x)
    ∙ ap₂ (λ l m. l ++ m) (same_more f start bit n x reached (λ i from less. same i from (omega (arith, less))))
    (sym (same (bit + n) (omega arith) (omega arith)))
    ∙ sym (gathered_from f start (bit + n) (omega (arith, reached)))
    ∙ ap (λ (k : ℕ). gathered f (range_with_len start (k - start))) one

-- bits that aren't shown
passed_rest : (bus : ℕ → Level) (start bit n : ℕ) (hs : List BitEvent) (t : NodeTrace) (old new : NodeRows) → 5 ≤ n →
    bit + n ≤ start → IsResting bit n t hs → AreRows bus start bit hs old → PassesRest old new →
    AreRows bus start (bit + n) hs new
passed_rest bus start bit n hs t old new many before rest rows p = record {
  run = p.run ∙ run_rests bit n t hs rest old.run many rows.run;
  levels = p.levels ∙ rows.levels ∙ gathered_before (driven_sign hs) start bit (omega (arith, before))
      ∙ sym (gathered_before (driven_sign hs) start (bit + n) before);
  letters = p.letters ∙ rows.letters ∙ gathered_before (letter_in bus hs) start bit (omega (arith, before))
      ∙ sym (gathered_before (letter_in bus hs) start (bit + n) before);
}

-- bits that are
drawn_rest : (bus : ℕ → Level) (start bit n : ℕ) (hs : List BitEvent) (t : NodeTrace) (old new : NodeRows) → 5 ≤ n →
    start ≤ bit → ((i : ℕ) → bit ≤ i → i < bit + n → bus i ≡ Recessive) → IsResting bit n t hs →
    AreRows bus start bit hs old → Rests n t old new → AreRows bus start (bit + n) hs new
drawn_rest bus start bit n hs t old new many reached none rest rows d = record {
  run = d.run ∙ run_rests bit n t hs rest old.run many rows.run;
  levels = d.levels ∙ ap (λ l. l ++ repeat n (level_sign Recessive)) rows.levels
      ∙ same_more (driven_sign hs) start bit n (level_sign Recessive) reached
      (λ i from less. ap level_sign (drives_none bit n t hs rest i from less));
  letters = d.letters ∙ ap (λ l. l ++ repeat n (rest_letter t.short)) rows.letters
      ∙ same_more (letter_in bus hs) start bit n (rest_letter t.short) reached
      (λ i from less. one_letter bit n t hs rest bus i from less (none i from less));
}

-- ---- of all nodes

pub bus_rests : (bit n : ℕ) (ts : List NodeTrace) (told : List (List BitEvent)) → AreResting bit n ts told → (i : ℕ) →
    bit ≤ i → i < bit + n → bus_in told i ≡ Recessive
bus_rests bit n [] [] rest i from less = refl
bus_rests bit n [] (hs ∷ told) rest i from less = absurd rest
bus_rests bit n (t ∷ ts) [] rest i from less = absurd rest
bus_rests bit n (t ∷ ts) (hs ∷ told) rest i from less =
    ap (λ (l : Level). wired (l ∷ map (λ (xs : List BitEvent). driven_in (slice_get xs i)) told))
    (drives_none bit n t hs rest.0 i from less)
    ∙ bus_rests bit n ts told rest.1 i from less

pub all_passed_rest : (bus : ℕ → Level) (start bit n : ℕ) (told : List (List BitEvent)) (ts : List NodeTrace)
    (olds news : List NodeRows) → 5 ≤ n → bit + n ≤ start → AreResting bit n ts told →
    EachRelated PassesRest olds news → EachRelated (AreRows bus start bit) told olds →
    EachRelated (AreRows bus start (bit + n)) told news
all_passed_rest bus start bit n [] [] [] [] many before rest p rows = tt
all_passed_rest bus start bit n [] [] [] (w ∷ news) many before rest p rows = absurd p
all_passed_rest bus start bit n [] [] (o ∷ olds) news many before rest p rows = absurd rows
all_passed_rest bus start bit n [] (t ∷ ts) olds news many before rest p rows = absurd rest
all_passed_rest bus start bit n (hs ∷ told) [] olds news many before rest p rows = absurd rest
all_passed_rest bus start bit n (hs ∷ told) (t ∷ ts) [] news many before rest p rows = absurd rows
all_passed_rest bus start bit n (hs ∷ told) (t ∷ ts) (o ∷ olds) [] many before rest p rows = absurd p
all_passed_rest bus start bit n (hs ∷ told) (t ∷ ts) (o ∷ olds) (w ∷ news) many before rest p rows = (
  passed_rest bus start bit n hs t o w many before rest.0 rows.0 p.0,
  all_passed_rest bus start bit n told ts olds news many before rest.1 p.1 rows.1,
)

pub all_drawn_rest : (bus : ℕ → Level) (start bit n : ℕ) (told : List (List BitEvent)) (ts : List NodeTrace)
    (olds news : List NodeRows) → 5 ≤ n → start ≤ bit → ((i : ℕ) → bit ≤ i → i < bit + n → bus i ≡ Recessive) →
    AreResting bit n ts told → EachBeside (Rests n) ts olds news → EachRelated (AreRows bus start bit) told olds →
    EachRelated (AreRows bus start (bit + n)) told news
all_drawn_rest bus start bit n [] [] [] [] many reached none rest d rows = tt
all_drawn_rest bus start bit n [] [] [] (w ∷ news) many reached none rest d rows = absurd d
all_drawn_rest bus start bit n [] [] (o ∷ olds) news many reached none rest d rows = absurd d
all_drawn_rest bus start bit n [] (t ∷ ts) olds news many reached none rest d rows = absurd rest
all_drawn_rest bus start bit n (hs ∷ told) [] olds news many reached none rest d rows = absurd rest
all_drawn_rest bus start bit n (hs ∷ told) (t ∷ ts) [] news many reached none rest d rows = absurd d
all_drawn_rest bus start bit n (hs ∷ told) (t ∷ ts) (o ∷ olds) [] many reached none rest d rows = absurd d
all_drawn_rest bus start bit n (hs ∷ told) (t ∷ ts) (o ∷ olds) (w ∷ news) many reached none rest d rows = (
  drawn_rest bus start bit n hs t o w many reached none rest.0 rows.0 d.0,
  all_drawn_rest bus start bit n told ts olds news many reached none rest.1 d.1 rows.1,
)
