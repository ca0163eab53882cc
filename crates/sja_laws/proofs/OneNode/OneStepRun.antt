-- A step of a driver, as its author has it, does one thing.
use Rattle.std.proofs.Common.{◌≡◌, ◌<◌, ◌≤◌, ◌⊎◌, inl, inr, ℕ, Bool, true, false, List, [], ◌∷◌, ◌++◌, refl, sym}
use Rattle.std.proofs.Common.{ap, ◌∙◌, subst, arith}
use Rattle.can_frame.specs.declared.buffer_view.BufferView.{BufferView}
use Rattle.lemmas.specs.Picking.{EachAfter}
use Rattle.sja_journal.specs.declared.entry.Entry.{Entry}
use Rattle.sja_link.specs.Looking.{off_among}
use Rattle.sja_journal.specs.Places.{place_of}
use Rattle.sja_regs.specs.declared.registers.Registers.{Registers}
use Rattle.sja_steps.specs.declared.step.Step.{Step}
use Rattle.sja_steps.specs.declared.step.Step.TheVariants.{Start, Stop, Window, Release, Read, Write, Load, Command}
use Rattle.sja_steps.specs.declared.step.Step.TheVariants.{Await, Sent, Interrupt, At}
use Rattle.sja_steps.specs.declared.refusal.Refusal.TheVariants.{Closed}
use Rattle.sja_steps.specs.declared.step_answer.StepAnswer.{StepAnswer}
use Rattle.sja_steps.specs.declared.step_answer.StepAnswer.TheVariants.{Done, Refused}
use Rattle.sja_driver.specs.declared.unmodelled_registers.UnmodelledRegisters.{UnmodelledRegisters}
use Rattle.sja_driver.specs.StepRuns.{StepRun, Answers, IsStepRun, by_bytes, act_steps, kept_by, kept_written}
use Rattle.sja_driver.specs.Carried.{Sees}
use Rattle.sja_driver.specs.TypedActs.{TypedAct, is_active, opened_by}
use Rattle.sja_driver.specs.Windows.{SeesIf, off_by, put_by, window_of}
use Rattle.sja_promises.specs.Registering.{LeadOn, seen_now}
use Rattle.sja_promises.specs.Registering.LeadOn.{nothing_more, one_more}
use Rattle.sja_promises.proofs.Trace.Windows.{window_later}
use Rattle.sja_laws.specs.Promised.{IsPromised}
use Rattle.sja_laws.proofs.OneNode.OneAnswer.{acts_once}
use Rattle.sja_laws.proofs.OneNode.OnePort.{bits_with_items}

-- ---- the answer of a step

one_same : (xs : List StepAnswer) (a b : StepAnswer) → xs ≡ a ∷ [] → xs ≡ b ∷ [] → a ≡ b
one_same xs a b h k = let e : a ∷ [] ≡ b ∷ [] = sym h ∙ k in cc

-- a wait for a bit is done, or given up, as so many bits have run
reached_once : (least bits : ℕ) (P : Type 0) (a b : StepAnswer) →
    ((a ≡ Done) × (least ≤ bits)) ⊎ ((a ≡ Refused Closed) × (bits < least) × P) →
    ((b ≡ Done) × (least ≤ bits)) ⊎ ((b ≡ Refused Closed) × (bits < least) × P) → a ≡ b
reached_once least bits P a b (inl h) (inl k) = h.0 ∙ sym k.0
reached_once least bits P a b (inl h) (inr k) = let past = h.1 in let few = k.1 in absurd (omega (arith, past, few))
reached_once least bits P a b (inr h) (inl k) = let past = k.1 in let few = h.1 in absurd (omega (arith, past, few))
reached_once least bits P a b (inr h) (inr k) = h.0 ∙ sym k.0

told_once : (bytes : Bool) (p : Registers) (seen : BufferView) (kept : UnmodelledRegisters) (bits : ℕ) (s : Step)
    (acts : List TypedAct)
    (a b : StepAnswer) → Answers bytes p seen kept bits s acts a → Answers bytes p seen kept bits s acts b → a ≡ b
told_once true p seen kept bits (Read address) acts a b h k = h ∙ sym k
told_once true p seen kept bits (Write address value) acts a b h k = h ∙ sym k
told_once true p seen kept bits Start acts a b h k = one_same _ a b h k
told_once true p seen kept bits Stop acts a b h k = one_same _ a b h k
told_once true p seen kept bits Window acts a b h k = one_same _ a b h k
told_once true p seen kept bits Release acts a b h k = one_same _ a b h k
told_once true p seen kept bits (Load m) acts a b h k = one_same _ a b h k
told_once true p seen kept bits (Command value) acts a b h k = one_same _ a b h k
told_once true p seen kept bits (Await count) acts a b h k = one_same _ a b h k
told_once true p seen kept bits Sent acts a b h k = one_same _ a b h k
told_once true p seen kept bits Interrupt acts a b h k = one_same _ a b h k
told_once true p seen kept bits (At least) acts a b h k = reached_once least bits (p.closed ≡ true) a b h k
told_once false p seen kept bits s acts a b h k = one_same _ a b h k

pub record IsOneStepRun (a b : StepRun) (kept_a kept_b : UnmodelledRegisters) (k l : List Entry) (q r : Registers) :
    Type 0 where
  pub step_run : a ≡ b
  pub kept : kept_a ≡ kept_b
  pub entries : k ≡ l
  pub port : q ≡ r

pub step_run_once : (version : ℕ) (whole : List Entry) (before : List TypedAct) (j k l : List Entry) (p q r : Registers)
    (kept kept_a kept_b : UnmodelledRegisters) (a b : StepRun) → a.step ≡ b.step → a.bits ≡ b.bits →
    IsStepRun version p (seen_now (is_active before) j before) (is_active before) kept a kept_a →
    IsStepRun version p (seen_now (is_active before) j before) (is_active before) kept b kept_b →
    LeadOn before j p a.acts k q → LeadOn before j p b.acts l r →
    EachAfter (IsPromised version whole) before a.acts → EachAfter (IsPromised version whole) before b.acts →
    IsOneStepRun a b kept_a kept_b k l q r
step_run_once version whole before j k l p q r kept kept_a kept_b a b same bits is it on lead h g =
    let active = is_active before in
    let steps = is.steps ∙ ap (act_steps (by_bytes version) p active) same ∙ sym it.steps in
    let one = acts_once version whole before j p a.acts b.acts k l q r on lead steps h g in
    let seen = seen_now active j before in
    let A : ℕ → Step → List TypedAct → Type 0 = λ n s d. Answers (by_bytes version) p seen kept n s d b.answer in
    let again : A a.bits a.step a.acts =
    subst (λ d. A a.bits a.step d) (sym one.acts)
    (subst (λ s. A a.bits s b.acts) (sym same) (subst (λ n. A n b.step b.acts) (sym bits) it.answer)) in
    let answer = told_once (by_bytes version) p seen kept a.bits a.step a.acts a.answer b.answer is.answer again in
    record {
      step_run = λ i. record { step = same i; answer = answer i; bits = bits i; acts = one.acts i };
      kept = is.left ∙ (λ i. kept_by (kept_written p kept (same i)) (one.acts i)) ∙ sym it.left;
      entries = one.entries;
      port = one.port;
    }

-- the same without names
pub step_run_alike : (version : ℕ) (whole : List Entry) (before : List TypedAct) (j k l : List Entry)
    (p q r : Registers)
    (kept kept_a kept_b : UnmodelledRegisters) (a b : StepRun) → a.step ≡ b.step → a.bits ≡ b.bits →
    IsStepRun version p (seen_now (is_active before) j before) (is_active before) kept a kept_a →
    IsStepRun version p (seen_now (is_active before) j before) (is_active before) kept b kept_b →
    LeadOn before j p a.acts k q → LeadOn before j p b.acts l r →
    EachAfter (IsPromised version whole) before a.acts → EachAfter (IsPromised version whole) before b.acts →
    (a ≡ b) × (kept_a ≡ kept_b) × (k ≡ l) × (q ≡ r)
step_run_alike version whole before j k l p q r kept kept_a kept_b a b same bits is it on lead h g =
    let o = step_run_once version whole before j k l p q r kept kept_a kept_b a b same bits is it on lead h g in
    (o.step_run, o.kept, o.entries, o.port)

-- ---- when the acts of a step were done

abbrev pub AllAt : ℕ → List TypedAct → Type 0
AllAt n [] = Unit {0}
AllAt n (d ∷ acts) = (d.bits ≡ n) × AllAt n acts

at_push : (n : ℕ) (acts : List TypedAct) (d : TypedAct) → AllAt n acts → d.bits ≡ n → AllAt n (acts ++ d ∷ [])
at_push n [] d h b = (b, tt)
at_push n (x ∷ acts) d h b = (h.0, at_push n acts d h.1 b)

pub bits_on : (before : List TypedAct) (j : List Entry) (p : Registers) (k : List Entry) (q : Registers)
    (acts : List TypedAct) →
    LeadOn before j p acts k q → ((place_of k).bits ≡ (place_of j).bits) × AllAt (place_of j).bits acts
bits_on before j p k q _ nothing_more = (refl, tt)
bits_on before j p l r _ (one_more acts d k _ q _ on is) =
    let h = bits_on before j p k q acts on in
    (bits_with_items k l d.gave is.taken ∙ h.0, at_push (place_of j).bits acts d h.1 (is.now ∙ h.0))

-- ---- what was seen of a journal that goes on

sees_then : (active : Bool) (j whole : List Entry) (before : List TypedAct) (d : TypedAct) →
    ((a : ℕ) → put_by d.bits whole a ≡ put_by d.bits j a) → SeesIf active whole before d → SeesIf active j before d
sees_then true j whole before d same h =
    let a = opened_by before in
    let off : off_by d.bits whole a ≡ off_by d.bits j a = ap (λ l. off_among false l) (same a) in
    let window = window_later j whole before d.bits (same a) in
    subst (λ o. Sees d.step o (window_of j before d.bits) d.answer) off
    (subst (λ w. Sees d.step (off_by d.bits whole a) w d.answer) window h)
sees_then false j whole before d same h = tt

pub promised_then : (version n : ℕ) (j whole : List Entry) (before acts : List TypedAct) →
    ((a : ℕ) → put_by n whole a ≡ put_by n j a) → AllAt n acts → EachAfter (IsPromised version whole) before acts →
    EachAfter (IsPromised version j) before acts
promised_then version n j whole before [] same at h = tt
promised_then version n j whole before (d ∷ acts) same at h =
    let P : ℕ → Type 0 = λ m. (a : ℕ) → put_by m whole a ≡ put_by m j a in
    let first = h.0 in (
      record {
        fits = first.fits;
        sees = sees_then (is_active before) j whole before d (subst P (sym at.0) same) first.sees;
        patient = first.patient;
      },
      promised_then version n j whole (before ++ d ∷ []) acts same at.1 h.1,
    )
