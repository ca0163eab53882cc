-- Acts of a driver, with one more, beside the journal.
use Rattle.std.proofs.Common.{◌≡◌, ◌≢◌, ℕ, ◌+◌, ◌<◌, ◌≤◌, ◌⊎◌, Bool, true, false, List, [], ◌∷◌, ◌++◌, map, refl, sym}
use Rattle.std.proofs.Common.{ap, ap₂, ◌∙◌, subst, append_assoc, append-nil, arith, inl, inr}
use Rattle.std.specs.Prelude.{◌==◌, if◌then◌else◌}
use Rattle.std.proofs.lemmas.Bool.{cases_eq, cases_lt, eq-eqb, ne_eqb}
use Rattle.std.proofs.lemmas.List.{map-append}
use Rattle.sja_journal.specs.declared.up.Up.{Up}
use Rattle.sja_journal.specs.declared.entry.Entry.{Entry}
use Rattle.lemmas.specs.Gathering.{total, gathered}
use Rattle.lemmas.specs.Picking.{EachAfter}
use Rattle.sja_journal.specs.Places.{Placed, placed, activation_of, place_of}
use Rattle.sja_journal.specs.Parts.{in_part, entry_at, part}
use Rattle.sja_journal.specs.Carried.{taken_in, taken_of}
use Rattle.lemmas.proofs.Gathered.{gathered_append}
use Rattle.lemmas.proofs.Lists.{none_front}
use Rattle.sja_journal.proofs.JournalEntries.Entering.{of_part_later}
use Rattle.sja_steps.specs.declared.step.Step.{Step}
use Rattle.sja_steps.specs.declared.step.Step.TheVariants.{Start, Stop, Window, Release, Read, Write, Load, Command}
use Rattle.sja_steps.specs.declared.step.Step.TheVariants.{Await, Sent, Interrupt, At}
use Rattle.sja_steps.specs.declared.step_answer.StepAnswer.{StepAnswer}
use Rattle.sja_steps.specs.declared.step_answer.StepAnswer.TheVariants.{Done as DoneAnswer, NoMessage, Shown, Released}
use Rattle.sja_steps.specs.declared.step_answer.StepAnswer.TheVariants.{Value, Refused, Ignored}
use Rattle.sja_driver.specs.TypedActs.{TypedAct, opened, opens_by, opened_by, Gives, given_in, section_from, acts_of}
use Rattle.sja_driver.proofs.LogOfSteps.Sections.{acts_push}
use Rattle.sja_driver.specs.Timing.{Timed, timed, given_when, taken_when}
use Rattle.sja_driver.proofs.Trace.Waiting.{WaitsInTime}

-- ---- an act more

-- whether an act stands in an activation
abbrev pub stands_in : List TypedAct → TypedAct → ℕ → Bool
stands_in acts d a = (opened_by acts + opens_by d) == a

given_one : {B : Type 0} (f : TypedAct → List B) (d : TypedAct) (b : Bool) →
    gathered f (if b then d ∷ [] else []) ≡ (if b then f d else [])
given_one f d true = append-nil (f d)
given_one f d false = refl

-- what a driver gave in an activation
pub given_push : (acts : List TypedAct) (d : TypedAct) (a : ℕ) →
    given_in (acts_of (acts ++ d ∷ []) a) ≡ given_in (acts_of acts a)
    ++ (if stands_in acts d a then d.gave else [])
given_push acts d a =
    ap given_in (acts_push acts d a) ∙ gathered_append (λ (x : TypedAct). x.gave) (acts_of acts a)
    (if stands_in acts d a then d ∷ [] else [])
    ∙ ap (λ l. given_in (acts_of acts a) ++ l) (given_one (λ (x : TypedAct). x.gave) d (stands_in acts d a))

pub when_push : (acts : List TypedAct) (d : TypedAct) (a : ℕ) →
    given_when (acts ++ d ∷ []) a ≡ given_when acts a
    ++ (if stands_in acts d a then map (timed d.bits) d.gave else [])
when_push acts d a =
    let f : TypedAct → List Timed = λ x. map (timed x.bits) x.gave in
    ap (gathered f) (acts_push acts d a) ∙ gathered_append f (acts_of acts a)
    (if stands_in acts d a then d ∷ [] else [])
    ∙ ap (λ l. given_when acts a ++ l) (given_one f d (stands_in acts d a))

-- ---- items in time

-- a step of the driver, done after the bits that have run: what it gave waits
pub timely_act : (acts : List TypedAct) (d : TypedAct) (j : List Entry) (a : ℕ) (up : List Up) →
    d.bits ≡ (place_of j).bits →
    WaitsInTime (given_when acts a) j a up →
    WaitsInTime (given_when (acts ++ d ∷ []) a) j a (up ++ (if stands_in acts d a then d.gave else []))
timely_act acts d j a up now h =
    when_push acts d a
    ∙ ap₂ (λ x y. x ++ y) h (ap (λ n. if stands_in acts d a then map (timed n) d.gave else []) now)
    ∙ append_assoc (taken_when j a) (map (timed (place_of j).bits) up)
    (if stands_in acts d a then map (timed (place_of j).bits) d.gave else [])
    ∙ ap (λ l. taken_when j a ++ l) (one (stands_in acts d a))
  where
    one : (b : Bool) → map (timed (place_of j).bits) up
        ++ (if b then map (timed (place_of j).bits) d.gave else []) ≡ map (timed (place_of j).bits)
        (up ++ (if b then d.gave else []))
    one true = sym (map-append (timed (place_of j).bits) up d.gave)
    one false = sym (map-append (timed (place_of j).bits) up [])

-- ---- the same items without their times

items_back : (n : ℕ) (us : List Up) → map (λ (t : Timed). t.item) (map (timed n) us) ≡ us
items_back n [] = refl
items_back n (u ∷ us) = ap (λ l. u ∷ l) (items_back n us)

items_given : (ds : List TypedAct) → map (λ (t : Timed). t.item)
    (gathered (λ (d : TypedAct). map (timed d.bits) d.gave) ds) ≡ given_in ds
items_given [] = refl
items_given (d ∷ ds) =
    map-append (λ (t : Timed). t.item) (map (timed d.bits) d.gave)
    (gathered (λ (x : TypedAct). map (timed x.bits) x.gave) ds)
    ∙ ap₂ (λ x y. x ++ y) (items_back d.bits d.gave) (items_given ds)

items_taken : (j : List Entry) (a : ℕ) → map (λ (t : Timed). t.item) (taken_when j a) ≡ taken_of (part j a)
items_taken j a = over (placed j)
  where
    one : (b : Bool) (q : Placed) → map (λ (t : Timed). t.item)
        (if b then map (timed q.before.bits) (taken_in q.entry) else []) ≡ gathered taken_in
        (if b then entry_at q else [])
    one true q = items_back q.before.bits (taken_in q.entry) ∙ sym (append-nil (taken_in q.entry))
    one false q = refl

    over : (qs : List Placed) → map (λ (t : Timed). t.item)
        (gathered (in_part (λ q. map (timed q.before.bits) (taken_in q.entry)) a) qs) ≡ gathered taken_in
        (gathered (in_part entry_at a) qs)
    over [] = refl
    over (q ∷ qs) =
        map-append (λ (t : Timed). t.item) (in_part (λ x. map (timed x.before.bits) (taken_in x.entry)) a q)
        (gathered (in_part (λ x. map (timed x.before.bits) (taken_in x.entry)) a) qs)
        ∙ ap₂ (λ x y. x ++ y) (one (activation_of q == a) q) (over qs)
        ∙ sym (gathered_append taken_in (in_part entry_at a q) (gathered (in_part entry_at a) qs))

-- what was given in time is what was taken
pub given_taken : (acts : List TypedAct) (j : List Entry) (a : ℕ) → given_when acts a ≡ taken_when j a →
    given_in (acts_of acts a) ≡ taken_of (part j a)
given_taken acts j a h = sym (items_given (acts_of acts a)) ∙ ap (map (λ (t : Timed). t.item)) h ∙ items_taken j a

-- ---- every activation that a driver opened has begun in the journal

opening : (s : Step) (r : StepAnswer) (gave : List Up) → Gives s r gave → (opened s r ≡ 0)
    ⊎ ((opened s r ≡ 1) × (gave ≢ []))
opening Start DoneAnswer gave h = inr (refl, λ none. let x = sym none ∙ h.1 in cc x)
opening Start NoMessage gave h = inl refl
opening Start (Shown m) gave h = inl refl
opening Start (Released n) gave h = inl refl
opening Start (Value n) gave h = inl refl
opening Start (Refused r) gave h = inl refl
opening Start (Ignored cause) gave h = inl refl
opening Stop r gave h = inl refl
opening Window r gave h = inl refl
opening Release r gave h = inl refl
opening (Read x) r gave h = inl refl
opening (Write x y) r gave h = inl refl
opening (Load m) r gave h = inl refl
opening (Command v) r gave h = inl refl
opening (Await n) r gave h = inl refl
opening Sent r gave h = inl refl
opening Interrupt r gave h = inl refl
opening (At bits) r gave h = inl refl

some_given : (n : ℕ) (before ds : List TypedAct) (a : ℕ) → EachAfter (λ b d. Gives d.step d.answer d.gave) before ds →
    n < a → a ≤ n + total opens_by ds →
    given_in (section_from opens_by n ds a) ≢ []
some_given n before [] a gives less most none = omega (arith, less, most)
some_given n before (d ∷ ds) a gives less most none =
    let P : Bool → Type 0 = λ b. given_in ((if b then d ∷ [] else [])
    ++ section_from opens_by (n + opens_by d) ds a) ≡ [] in
    elim (cases_eq (n + opens_by d) a) [
      | inl q ↦ elim (opening d.step d.answer d.gave gives.0) [
        | inl zero ↦ omega (arith, less, q, zero)
        | inr one ↦ one.1 (none_front d.gave _ (subst P (eq-eqb (n + opens_by d) a q) none))
      ]
      | inr m ↦
          let few : n + opens_by d < a = elim (opening d.step d.answer d.gave gives.0) [
            | inl zero ↦ omega (arith, less, m, zero)
            | inr one ↦ let o = one.0 in omega (arith, less, m, o)
          ] in
          some_given (n + opens_by d) (before ++ d ∷ []) ds a gives.1 few (omega (arith, most))
          (subst P (ne_eqb (n + opens_by d) a m) none)
    ]

pub opened_begun : (acts : List TypedAct) (j : List Entry) → EachAfter (λ b d. Gives d.step d.answer d.gave) [] acts →
    ((a : ℕ) → given_in (acts_of acts a) ≡ taken_of (part j a)) → opened_by acts ≤ (place_of j).activation
opened_begun acts j gives same = elim (cases_lt (place_of j).activation (opened_by acts)) [
  | inl late ↦ absurd (some_given 0 [] acts (opened_by acts) gives (omega (arith, late)) (omega arith)
      (same (opened_by acts) ∙ ap taken_of (of_part_later entry_at j (opened_by acts) late)))
  | inr in_time ↦ omega (arith, in_time)
]
