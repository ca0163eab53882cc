-- A step that is done in one run isn't one that has to wait in another.
use Rattle.std.proofs.Common.{◌≡◌, ◌≢◌, ◌<◌, ◌≤◌, ◌⊎◌, ℕ, Bool, true, false, not, Option, Some, None, List, [], ◌∷◌}
use Rattle.std.proofs.Common.{◌++◌, length, map, refl, sym, ap, ◌∙◌, subst, arith, inl, inr, append-nil}
use Rattle.can_frame.specs.declared.buffer_view.BufferView.{BufferView}
use Rattle.lemmas.specs.Picking.{EachAfter}
use Rattle.lemmas.proofs.Gathered.{gathered_append, gathered_push}
use Rattle.sja_journal.specs.NodeWords.{NodeEntry}
use Rattle.sja_journal.specs.declared.entry.Entry.{Entry}
use Rattle.sja_journal.specs.declared.entry.Entry.TheVariants.{Bit}
use Rattle.sja_journal.specs.declared.up.Up.{Up}
use Rattle.sja_journal.specs.declared.verdict.Verdict.{Verdict}
use Rattle.sja_journal.specs.declared.verdict.Verdict.TheVariants.{Stored as ToStore, Overrun as ToLose}
use Rattle.sja_journal.specs.BitEntries.{abort_as, entries_of_items, judged_as, off_as}
use Rattle.sja_journal.specs.Carried.{taken_in, taken_of}
use Rattle.sja_journal.specs.Places.{place_of}
use Rattle.sja_journal.specs.Records.{record_of}
use Rattle.sja_journal.proofs.JournalEntries.Entering.{bits_counted}
use Rattle.sja_regs.specs.declared.registers.Registers.{Registers}
use Rattle.sja_regs.specs.InterruptLine.{is_line_active}
use Rattle.sja_steps.specs.declared.refusal.Refusal.TheVariants.{Closed}
use Rattle.sja_steps.specs.declared.step.Step.{Step}
use Rattle.sja_steps.specs.declared.step.Step.TheVariants.{Start, Stop, Window, Release, Read, Write, Load, Command}
use Rattle.sja_steps.specs.declared.step.Step.TheVariants.{Await, Sent, Interrupt, At}
use Rattle.sja_steps.specs.declared.step_answer.StepAnswer.{StepAnswer}
use Rattle.sja_steps.specs.declared.step_answer.StepAnswer.TheVariants.{Done, Refused}
use Rattle.sja_driver.specs.declared.unmodelled_registers.UnmodelledRegisters.{UnmodelledRegisters}
use Rattle.sja_driver.specs.StepRuns.{StepRun, Answers, IsStepRun, by_bytes, act_steps, acts_in}
use Rattle.sja_driver.specs.Carried.{Sees, Tells}
use Rattle.sja_driver.specs.TypedActs.{TypedAct, given_in, is_active, opened_by}
use Rattle.sja_driver.specs.Moments.{at_moment}
use Rattle.sja_driver.specs.NodeRest.{IsHolding}
use Rattle.sja_driver.specs.Windows.{SeesIf, off_by, put_by, window_of}
use Rattle.sja_driver.proofs.Trace.Moments.{HasBitsAfterAborts}
use Rattle.sja_promises.specs.Registering.{StepRunsLeadTo, IsLineInactive, IsPortAct, LeadOn, LeadTo, seen_now}
use Rattle.sja_promises.specs.Registering.LeadTo.{power_on, act, bit}
use Rattle.sja_promises.specs.Turns.{IsUnmet}
use Rattle.sja_promises.proofs.NodeLog.Onward.{moment_then, put_then, aborts_bit, aborts_items}
use Rattle.sja_promises.proofs.OneNode.OneAct.{lead_one}
use Rattle.sja_promises.proofs.Trace.StepRunActs.{forget}
use Rattle.sja_promises.proofs.Trace.Stays.{unclosed_led}
use Rattle.sja_promises.proofs.Trace.Windows.{window_later}
use Rattle.sja_laws.specs.LongerJournals.{GoesOn}
use Rattle.sja_laws.specs.Promised.{IsPromised}
use Rattle.sja_laws.proofs.Journals.LastBits.{bit_whole}
use Rattle.sja_laws.proofs.OneNode.Asked.{asked_by}
use Rattle.sja_laws.proofs.OneNode.Onward.{extends}
use Rattle.sja_laws.proofs.OneNode.OnePort.{port_once}
use Rattle.sja_link.specs.Looking.{off_among}

-- ---- the journal at the moment that it has come to

aborts_by : (version : ℕ) (j : List Entry) (acts : List TypedAct) (p : Registers) → LeadTo version j acts p →
    HasBitsAfterAborts j
aborts_by version j acts p power_on = tt
aborts_by version k acts q (act j _ before d p _ led is) =
    aborts_items j k (record { items = d.gave; whole = is.taken }) (aborts_by version j before p led)
aborts_by version k acts q (bit j _ _ p _ led b) =
    aborts_bit j k (record { changed = b.changed; driven = b.driven; seen = b.seen; bit = b.bit })
    (aborts_by version j acts p led)

items_taken : (us : List Up) → taken_of (entries_of_items us) ≡ us
items_taken [] = refl
items_taken (u ∷ us) = ap (λ l. u ∷ l) (items_taken us)

none_taken : (v : Option (Verdict × List ℕ)) (o : Bool) → taken_of (judged_as v ++ off_as o) ≡ []
none_taken None true = refl
none_taken None false = refl
none_taken (Some (ToStore, m)) true = refl
none_taken (Some (ToStore, m)) false = refl
none_taken (Some (ToLose, m)) true = refl
none_taken (Some (ToLose, m)) false = refl

abort_taken : (j : List Entry) (changed : Bool) → taken_of (j ++ abort_as changed) ≡ taken_of j
abort_taken j true = gathered_push taken_in j _ ∙ append-nil (taken_of j)
abort_taken j false = ap taken_of (append-nil j)

taken_by : (version : ℕ) (j : List Entry) (acts : List TypedAct) (p : Registers) → LeadTo version j acts p →
    taken_of j ≡ given_in acts
taken_by version j acts p power_on = refl
taken_by version k acts q (act j _ before d p _ led is) =
    ap taken_of is.taken ∙ gathered_append taken_in j (entries_of_items d.gave)
    ∙ ap (λ l. taken_of j ++ l) (items_taken d.gave)
    ∙ ap (λ l. l ++ d.gave) (taken_by version j before p led)
    ∙ sym (gathered_push (λ (x : TypedAct). x.gave) before d)
taken_by version k acts q (bit j _ _ p _ led b) =
    let opened = j ++ abort_as b.changed in
    let brought = judged_as b.bit.verdict ++ off_as b.bit.off in
    ap taken_of (bit_whole opened k b.driven b.seen b.bit)
    ∙ gathered_append taken_in opened (Bit b.driven b.seen ∷ brought)
    ∙ ap (λ l. taken_of opened ++ l) (none_taken b.bit.verdict b.bit.off)
    ∙ append-nil (taken_of opened) ∙ abort_taken j b.changed ∙ taken_by version j acts p led

pub moment_is_front : (version : ℕ) (whole j : List Entry) (acts : List TypedAct) (p : Registers) (bits : ℕ) →
    LeadTo version j acts p → GoesOn j whole → (place_of j).bits ≡ bits →
    at_moment bits (length (given_in acts)) whole ≡ j
moment_is_front version whole j acts p bits led on is =
    moment_then j whole bits (length (given_in acts)) (extends j whole on) (aborts_by version j acts p led)
    (sym (bits_counted j) ∙ is) (ap (λ (l : List Up). length l) (taken_by version j acts p led))

-- ---- a step that waits is one act

single : (acts : List TypedAct) (s : Step) → map (λ (d : TypedAct). d.step) acts ≡ s ∷ [] →
    (d : TypedAct) × (acts ≡ d ∷ []) × (d.step ≡ s)
single [] s e = absurd cc
single (d ∷ []) s e = (d, refl, cc)
single (d ∷ x ∷ acts) s e = absurd cc

-- such a step
data Waits : Step → Type 0 where
  for_messages : (count : ℕ) → Waits (Await count)
  for_the_buffer : Waits Sent
  for_the_line : Waits Interrupt

one_step : (bytes : Bool) (p : Registers) (active : Bool) (s : Step) → Waits s → act_steps bytes p active s ≡ s ∷ []
one_step true p active _ (for_messages count) = refl
one_step true p active _ for_the_buffer = refl
one_step true p active _ for_the_line = refl
one_step false p active _ (for_messages count) = refl
one_step false p active _ for_the_buffer = refl
one_step false p active _ for_the_line = refl

-- ---- what it has to wait for isn't there

await_met : (count : ℕ) (off : Bool) (window : List (List ℕ)) (a : StepAnswer) → Sees (Await count) off window a →
    off ≡ false → a ≢ Refused Closed → length window < count → ⊥
await_met count true window a h e patient few = let never : true ≡ false = e in absurd cc
await_met count false window a (inl h) e patient few = let many = h.1 in omega (arith, many, few)
await_met count false window a (inr h) e patient few = patient h.0

sees_active : (active : Bool) (j : List Entry) (before : List TypedAct) (d : TypedAct) → active ≡ true →
    SeesIf active j before d → Sees d.step (off_by d.bits j (opened_by before)) (window_of j before d.bits) d.answer
sees_active true j before d e h = h
sees_active false j before d e h = absurd cc

sent_met : (active : Bool) (p : Registers) (seen : BufferView) (a : StepAnswer) → active ≡ true →
    Tells Sent active p seen a → p.tbs ≡ false → a ≢ Refused Closed → ⊥
sent_met true p seen a e (inl h) busy patient = let never : true ≡ false = sym h.1 ∙ busy in absurd cc
sent_met true p seen a e (inr h) busy patient = patient h.0
sent_met false p seen a e h busy patient = absurd cc

line_met : (active : Bool) (p : Registers) (seen : BufferView) (a : StepAnswer) → Tells Interrupt active p seen a →
    is_line_active p seen ≡ false → a ≢ Refused Closed → ⊥
line_met active p seen a (inl h) quiet patient = let never : true ≡ false = sym h.1 ∙ quiet in absurd cc
line_met active p seen a (inr h) quiet patient = patient h.0

reached_not : (least bits : ℕ) (closed : Bool) (a : StepAnswer) →
    ((a ≡ Done) × (least ≤ bits)) ⊎ ((a ≡ Refused Closed) × (bits < least) × (closed ≡ true)) → closed ≡ false →
    bits < least → ⊥
reached_not least bits closed a (inl h) unclosed few = let past = h.1 in omega (arith, past, few)
reached_not least bits closed a (inr h) unclosed few = let never : true ≡ false = sym h.2 ∙ unclosed in absurd cc

-- ---- the whole step

module _ (version : ℕ) (whole seen j : List Entry) (step_runs : List StepRun) (kept : UnmodelledRegisters)
    (p : Registers)
    (past : StepRunsLeadTo version j step_runs kept p)
    (promised : EachAfter (IsPromised version seen) [] (acts_in step_runs)) (on : GoesOn j whole) (k : List Entry)
    (q : Registers) (kept_now : UnmodelledRegisters) (a : StepRun)
    (is : IsStepRun version p (seen_now (is_active (acts_in step_runs)) j (acts_in step_runs))
    (is_active (acts_in step_runs)) kept a kept_now) (leads : LeadOn (acts_in step_runs) j p a.acts k q)
    (now : EachAfter (IsPromised version j) (acts_in step_runs) a.acts)
    (at : (least : ℕ) → a.step ≡ At least → a.bits ≡ (place_of j).bits) where
  abbrev before : List TypedAct
  before = acts_in step_runs

  abbrev bits : ℕ
  bits = (place_of j).bits

  led : LeadTo version j before p
  led = forget version j step_runs kept p past

  front : at_moment bits (length (given_in before)) whole ≡ j
  front = moment_is_front version whole j before p bits led on refl

  puts : (n : ℕ) → put_by bits whole n ≡ put_by bits j n
  puts n = put_then j whole bits n (extends j whole on) refl

  -- its act
  record IsAlone (s : Step) : Type 0 where
    pub one : TypedAct
    pub step : one.step ≡ s
    pub port : IsPortAct p q j k before one
    pub promise : IsPromised version j before one

  alone : (s : Step) → a.step ≡ s → Waits s → IsAlone s
  alone s e w =
      let listed : map (λ (d : TypedAct). d.step) a.acts ≡ s ∷ [] =
      is.steps ∙ ap (act_steps (by_bytes version) p (is_active before)) e
      ∙ one_step (by_bytes version) p (is_active before) s w in
      let one = single a.acts s listed in
      let P : List TypedAct → Type 0 = λ l. EachAfter (IsPromised version j) before l in
      record {
        one = one.0;
        step = one.2;
        port = lead_one leads one.1;
        promise = (subst P one.1 now).0;
      }

  never_await : (count : ℕ) → a.step ≡ Await count → IsUnmet version whole before bits (Await count) → ⊥
  never_await count e unmet =
      let h = alone (Await count) e (for_messages count) in
      let d = h.one in
      let sees = sees_active (is_active before) j before d unmet.0 h.promise.sees in
      let S : Step → ℕ → Type 0 =
      λ s n. Sees s (off_by n j (opened_by before)) (window_of j before n) d.answer in
      let seen : S (Await count) bits =
      subst (λ n. S (Await count) n) h.port.now (subst (λ s. S s d.bits) h.step sees) in
      let off : off_by bits j (opened_by before) ≡ false =
      sym (ap (λ l. off_among false l) (puts (opened_by before))) ∙ unmet.1 in
      let window = window_later j whole before bits (puts (opened_by before)) in
      let few : length (window_of j before bits) < count =
      subst (λ (w : List (List ℕ)). length w < count) window unmet.2 in
      await_met count (off_by bits j (opened_by before)) (window_of j before bits) d.answer seen off
      h.promise.patient few

  never_sent : a.step ≡ Sent → IsUnmet version whole before bits Sent → ⊥
  never_sent e unmet =
      let h = alone Sent e for_the_buffer in
      let d = h.one in
      let P : List NodeEntry → Type 0 = λ l. IsHolding l in
      let holding : IsHolding (record_of j) = subst P (ap record_of front) unmet.1 in
      let asked = asked_by version seen j before p led promised
      (record { found = holding.0; cut = holding.1 }) in
      let busy : p.tbs ≡ false = asked.1 holding.0 holding.1 ∙ ap not holding.2 in
      let T : Step → Type 0 = λ s. Tells s (is_active before) p (seen_now (is_active before) j before) d.answer in
      sent_met (is_active before) p (seen_now (is_active before) j before) d.answer unmet.0
      (subst T h.step h.port.tells) busy h.promise.patient

  never_interrupt : a.step ≡ Interrupt → IsUnmet version whole before bits Interrupt → ⊥
  never_interrupt e unmet =
      let h = alone Interrupt e for_the_line in
      let d = h.one in
      let P : List Entry → Type 0 = λ l. IsLineInactive version l before in
      let line : IsLineInactive version j before = subst P front unmet in
      let same = port_once version j before line.registers p line.lead led in
      let quiet : is_line_active p (seen_now (is_active before) j before) ≡ false =
      ap (λ (r : Registers). is_line_active r (seen_now (is_active before) j before)) (sym same) ∙ line.inactive in
      let T : Step → Type 0 = λ s. Tells s (is_active before) p (seen_now (is_active before) j before) d.answer in
      line_met (is_active before) p (seen_now (is_active before) j before) d.answer (subst T h.step h.port.tells) quiet
      h.promise.patient

  never_at : (least : ℕ) → a.step ≡ At least → IsUnmet version whole before bits (At least) → ⊥
  never_at least e unmet =
      let A : Bool → ℕ → Step → Type 0 =
      λ b n s. Answers b p (seen_now (is_active before) j before) kept n s a.acts a.answer in
      let told : A true bits (At least) =
      subst (λ b. A b bits (At least)) unmet.0 (subst (λ n. A (by_bytes version) n (At least)) (at least e)
      (subst (λ s. A (by_bytes version) a.bits s) e is.answer)) in
      reached_not least bits p.closed a.answer told (unclosed_led version j before p led) unmet.1

  pub never_unmet : (s : Step) → a.step ≡ s → IsUnmet version whole before bits s → ⊥
  never_unmet (Await count) e unmet = never_await count e unmet
  never_unmet Sent e unmet = never_sent e unmet
  never_unmet Interrupt e unmet = never_interrupt e unmet
  never_unmet (At least) e unmet = never_at least e unmet
  never_unmet Start e unmet = unmet
  never_unmet Stop e unmet = unmet
  never_unmet Window e unmet = unmet
  never_unmet Release e unmet = unmet
  never_unmet (Read address) e unmet = unmet
  never_unmet (Write address value) e unmet = unmet
  never_unmet (Load m) e unmet = unmet
  never_unmet (Command value) e unmet = unmet
