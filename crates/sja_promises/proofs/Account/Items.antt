-- A journal with at most one item more.
use Rattle.std.proofs.Common.{◌≡◌, ℕ, ◌+◌, Bool, true, false, List, [], ◌∷◌, ◌++◌, length, refl, sym, ap, ◌∙◌, subst}
use Rattle.std.proofs.Common.{append-nil, arith, inl, inr}
use Rattle.std.specs.Prelude.{◌||◌, not, drop, if◌then◌else◌}
use Rattle.std.specs.List.{fold}
use Rattle.std.proofs.lemmas.Bool.{cases_eq, eq-eqb, ne_eqb}
use Rattle.std.proofs.lemmas.List.Sums.{fold_push}
use Rattle.sja_journal.specs.declared.down.Down.{Down}
use Rattle.sja_journal.specs.declared.up.Up.{Up}
use Rattle.sja_journal.specs.declared.entry.Entry.{Entry}
use Rattle.sja_journal.specs.declared.entry.Entry.TheVariants.{Up as Item}
use Rattle.lemmas.specs.Gathering.{total}
use Rattle.sja_journal.specs.Lists.{messages}
use Rattle.sja_link.specs.Looking.{off_among}
use Rattle.sja_journal.specs.Places.{JournalPlace, past, place_of}
use Rattle.sja_journal.specs.Carried.{taken_in}
use Rattle.sja_link.specs.World.{is_send}
use Rattle.sja_journal.proofs.JournalEntries.Entering.{place_push, item_bits}
use Rattle.lemmas.proofs.Gathered.{total_push}
use Rattle.sja_journal.specs.Links.{stops_in, stops_of}
use Rattle.sja_driver.specs.Carried.{Sees}
use Rattle.sja_driver.specs.TypedActs.{TypedAct, opens_by, opened_by, active_after, active_from, is_active, acts_of}
use Rattle.sja_driver.specs.TypedActs.{released_lengths}
use Rattle.sja_driver.specs.Aborting.{sends_taken}
use Rattle.sja_driver.specs.Settings.{Standing, after_setting, after_act, settings_of}
use Rattle.sja_driver.specs.Timing.{given_when, taken_when}
use Rattle.sja_driver.proofs.Trace.Waiting.{WaitsInTime}
use Rattle.sja_driver.specs.Windows.{put_by, off_by, window_of, SeesIf}
use Rattle.sja_driver.proofs.Trace.Stepping.{stands_in, timely_act}
use Rattle.sja_driver.proofs.Trace.Timings.{timely_take, timely_quiet, all_timely}
use Rattle.sja_promises.proofs.Trace.Windows.{put_quiet}
use Rattle.sja_regs.specs.Registers.{at_power_on}

-- ---- places

pub bits_same : (j : List Entry) (u : Up) → (place_of (j ++ Item u ∷ [])).bits ≡ (place_of j).bits
bits_same j u = ap (λ (p : JournalPlace). p.bits) (place_push j (Item u)) ∙ item_bits (place_of j) u

pub stops_push : (j : List Entry) (u : Up) → stops_of (j ++ Item u ∷ []) ≡ stops_of j + stops_in (Item u)
stops_push j u = total_push stops_in j (Item u)

pub sends_push : (j : List Entry) (u : Up) → sends_taken (j ++ Item u ∷ []) ≡ sends_taken j + (is_send u + 0)
sends_push j u = total_push (λ (e : Entry). total is_send (taken_in e)) j (Item u)

-- ---- an item puts nothing

pub put_item : (n : ℕ) (j : List Entry) (u : Up) (a : ℕ) → put_by n (j ++ Item u ∷ []) a ≡ put_by n j a
put_item n j u a = put_quiet n j (Item u) a refl

-- what was put by any time is the same in both
abbrev pub SamePut : List Entry → List Entry → Type 0
SamePut j k = (n a : ℕ) → put_by n k a ≡ put_by n j a

pub off_same : (j k : List Entry) → SamePut j k → (n a : ℕ) → off_by n k a ≡ off_by n j a
off_same j k same n a = ap (off_among false) (same n a)

window_same : (j k : List Entry) → SamePut j k → (acts : List TypedAct) (n : ℕ) →
    window_of k acts n ≡ window_of j acts n
window_same j k same acts n = ap (λ (xs : List Down). drop
    (length (released_lengths (acts_of acts (opened_by acts)))) (messages xs)) (same n (opened_by acts))

pub sees_same : (j k : List Entry) → SamePut j k → (b : Bool) (before : List TypedAct) (d : TypedAct) →
    SeesIf b j before d →
    SeesIf b k before d
sees_same j k same true before d h =
    subst (λ (x : Bool). Sees d.step x (window_of k before d.bits) d.answer)
    (sym (off_same j k same d.bits (opened_by before)))
    (subst (λ (w : List (List ℕ)). Sees d.step (off_by d.bits j (opened_by before)) w d.answer)
    (sym (window_same j k same before d.bits)) h)
sees_same j k same false before d h = tt

-- ---- what was set

same_act : (j k : List Entry) → SamePut j k → (s : Standing) (d : TypedAct) → after_act k s d ≡ after_act j s d
same_act j k same s d =
    ap (λ (b : Bool). let r : Standing = record {
      active = active_after s.active d.step d.answer;
      activation = s.activation + opens_by d;
      registers = after_setting (not s.active || b) s.registers d.step d.answer;
    } in r) (off_same j k same d.bits s.activation)

same_standing : (j k : List Entry) → SamePut j k → (s : Standing) (acts : List TypedAct) →
    fold (after_act k) s acts ≡ fold (after_act j) s acts
same_standing j k same s [] = refl
same_standing j k same s (d ∷ acts) = ap (λ (x : Standing). fold (after_act k) x acts) (same_act j k same s d)
    ∙ same_standing j k same (after_act j s d) acts

pub settings_same : (version : ℕ) (j k : List Entry) → SamePut j k → (acts : List TypedAct) →
    settings_of version k acts ≡ settings_of version j acts
settings_same version j k same acts = ap (λ (s : Standing). s.registers) (same_standing j k same _ acts)

standing_is : (j : List Entry) (s : Standing) (acts : List TypedAct) →
    ((fold (after_act j) s acts).active ≡ active_from s.active acts) ×
    ((fold (after_act j) s acts).activation ≡ s.activation + opened_by acts)
standing_is j s [] = (refl, omega arith)
standing_is j s (d ∷ acts) = let h = standing_is j (after_act j s d) acts in let e = h.1 in (h.0, omega (arith, e))

-- an act more sets this
pub settings_push : (version : ℕ) (j : List Entry) (acts : List TypedAct) (d : TypedAct) →
    settings_of version j (acts ++ d ∷ []) ≡ after_setting
    (not (is_active acts) || off_by d.bits j (opened_by acts)) (settings_of version j acts) d.step d.answer
settings_push version j acts d =
    let s : Standing = record { active = false; activation = 0; registers = at_power_on version } in
    let h = standing_is j s acts in
    let e = h.1 in
    let a : (fold (after_act j) s acts).activation ≡ opened_by acts = omega (arith, e) in
    ap (λ (x : Standing). x.registers) (fold_push (after_act j) s acts d)
    ∙ ap (λ (b : Bool). after_setting (not b || off_by d.bits j (fold (after_act j) s acts).activation)
    (fold (after_act j) s acts).registers d.step d.answer) h.0
    ∙ ap (λ (n : ℕ). after_setting (not (is_active acts) || off_by d.bits j n)
    (fold (after_act j) s acts).registers d.step d.answer) a

-- ---- when it was given and taken

pub when_item : (acts : List TypedAct) (d : TypedAct) (j : List Entry) (u : Up) (a : ℕ) → d.bits ≡ (place_of j).bits →
    d.gave ≡ u ∷ [] → (past (place_of j) (Item u)).activation ≡ opened_by acts + opens_by d →
    given_when acts a ≡ taken_when j a → given_when (acts ++ d ∷ []) a ≡ taken_when (j ++ Item u ∷ []) a
when_item acts d j u a now gave at h =
    let first : WaitsInTime (given_when acts a) j a [] = h ∙ sym (append-nil (taken_when j a)) in
    let both : WaitsInTime (given_when (acts ++ d ∷ []) a) j a
    (if stands_in acts d a then d.gave else []) = timely_act acts d j a [] now first in
    elim (cases_eq (opened_by acts + opens_by d) a) [
      | inl q ↦
          let here : (if stands_in acts d a then d.gave else []) ≡ u ∷ [] = ap
          (λ (b : Bool). if b then d.gave else []) (eq-eqb _ _ q) ∙ gave in
          all_timely _ (j ++ Item u ∷ []) a (timely_take _ j a u [] (at ∙ q) (item_bits (place_of j) u)
          (subst (λ (l : List Up). WaitsInTime (given_when (acts ++ d ∷ []) a) j a l) here both))
      | inr n ↦
          let none : (if stands_in acts d a then d.gave else []) ≡ [] = ap (λ (b : Bool). if b then d.gave else [])
          (ne_eqb _ _ n) in
          all_timely _ (j ++ Item u ∷ []) a (timely_quiet _ j (Item u) a [] (inr (λ e. n (sym at ∙ e)))
          (item_bits (place_of j) u) (subst (λ (l : List Up). WaitsInTime (given_when (acts ++ d ∷ []) a) j a l) none
          both))
    ]

pub when_none : (acts : List TypedAct) (d : TypedAct) (j : List Entry) (a : ℕ) → d.bits ≡ (place_of j).bits →
    d.gave ≡ [] →
    given_when acts a ≡ taken_when j a → given_when (acts ++ d ∷ []) a ≡ taken_when j a
when_none acts d j a now gave h =
    let first : WaitsInTime (given_when acts a) j a [] = h ∙ sym (append-nil (taken_when j a)) in
    let both : WaitsInTime (given_when (acts ++ d ∷ []) a) j a
    (if stands_in acts d a then d.gave else []) = timely_act acts d j a [] now first in
    all_timely _ j a (subst (λ (l : List Up). WaitsInTime (given_when (acts ++ d ∷ []) a) j a l)
    (none (stands_in acts d a)) both)
  where
    none : (b : Bool) → (if b then d.gave else []) ≡ []
    none true = gave
    none false = refl
