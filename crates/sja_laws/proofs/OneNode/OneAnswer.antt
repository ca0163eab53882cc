-- At one port a step of a driver has one answer, gives one thing, and leaves one port.
use Rattle.std.proofs.Common.{◌≡◌, ◌≢◌, ◌<◌, ◌≤◌, ◌⊎◌, ℕ, Bool, true, false, List, [], ◌∷◌, ◌++◌, length, map}
use Rattle.std.proofs.Common.{refl, sym, ap, ◌∙◌, subst, inl, inr}
use Rattle.std.proofs.lemmas.List.{same_from_push}
use Rattle.can_frame.specs.declared.buffer_view.BufferView.{BufferView}
use Rattle.lemmas.specs.Picking.{EachAfter}
use Rattle.lemmas.proofs.Picking.{each_front}
use Rattle.sja_journal.specs.declared.entry.Entry.{Entry}
use Rattle.sja_journal.specs.declared.up.Up.{Up}
use Rattle.sja_journal.specs.BitEntries.{entries_of_items}
use Rattle.sja_regs.specs.declared.registers.Registers.{Registers}
use Rattle.sja_regs.specs.InterruptLine.{is_line_active}
use Rattle.sja_steps.specs.declared.refusal.Refusal.TheVariants.{Closed}
use Rattle.sja_steps.specs.declared.step.Step.{Step}
use Rattle.sja_steps.specs.declared.step.Step.TheVariants.{Start, Stop, Window, Release, Read, Write, Load, Command}
use Rattle.sja_steps.specs.declared.step.Step.TheVariants.{Await, Sent, Interrupt, At}
use Rattle.sja_steps.specs.declared.step_answer.StepAnswer.{StepAnswer}
use Rattle.sja_steps.specs.declared.step_answer.StepAnswer.TheVariants.{Done, Refused}
use Rattle.sja_driver.specs.Carried.{Sees, Tells, carried, ported}
use Rattle.sja_driver.specs.TypedActs.{TypedAct, FitsState, is_active, opened_by}
use Rattle.sja_driver.specs.Windows.{SeesIf, off_by, window_of}
use Rattle.sja_promises.specs.Registering.{IsPortAct, LeadOn, seen_now}
use Rattle.sja_promises.specs.Registering.LeadOn.{nothing_more, one_more}
use Rattle.sja_laws.specs.Promised.{IsPromised}
use Rattle.sja_laws.proofs.OneNode.OnePort.{not_last}

-- ---- an answer

-- what an active driver is answered by what was put
abbrev SeesBy : Bool → Step → Bool → List (List ℕ) → StepAnswer → Type 0
SeesBy true s off window a = Sees s off window a
SeesBy false s off window a = Unit {0}

-- one of two things, the second of which is never
either_once : (a b good bad : StepAnswer) (P Q : Type 0) → (a ≡ good) × P ⊎ (a ≡ bad) × Q →
    (b ≡ good) × P ⊎ (b ≡ bad) × Q → a ≢ bad → b ≢ bad → a ≡ b
either_once a b good bad P Q (inl h) (inl k) m n = h.0 ∙ sym k.0
either_once a b good bad P Q (inr h) k m n = absurd (m h.0)
either_once a b good bad P Q (inl h) (inr k) m n = absurd (n k.0)

wait_once : (a b good bad : StepAnswer) (P Q R : Type 0) → (a ≡ good) × P ⊎ (a ≡ bad) × Q × R →
    (b ≡ good) × P ⊎ (b ≡ bad) × Q × R → a ≢ bad → b ≢ bad → a ≡ b
wait_once a b good bad P Q R (inl h) (inl k) m n = h.0 ∙ sym k.0
wait_once a b good bad P Q R (inr h) k m n = absurd (m h.0)
wait_once a b good bad P Q R (inl h) (inr k) m n = absurd (n k.0)

window_once : (off : Bool) (window : List (List ℕ)) (a b : StepAnswer) → Sees Window off window a →
    Sees Window off window b → a ≡ b
window_once true window a b h k = h ∙ sym k
window_once false [] a b h k = h ∙ sym k
window_once false (m ∷ window) a b h k = h ∙ sym k

release_once : (off : Bool) (window : List (List ℕ)) (a b : StepAnswer) → Sees Release off window a →
    Sees Release off window b → a ≡ b
release_once true window a b h k = h ∙ sym k
release_once false [] a b h k = h ∙ sym k
release_once false (m ∷ window) a b h k = h ∙ sym k

await_once : (count : ℕ) (off : Bool) (window : List (List ℕ)) (a b : StepAnswer) → Sees (Await count) off window a →
    Sees (Await count) off window b → a ≢ Refused Closed → b ≢ Refused Closed → a ≡ b
await_once count true window a b h k m n = h ∙ sym k
await_once count false window a b h k m n =
    either_once a b Done (Refused Closed) (count ≤ length window) (length window < count) h k m n

answer_once : (version : ℕ) (active : Bool) (opened : ℕ) (s : Step) (p : Registers) (seen : BufferView) (off : Bool)
    (window : List (List ℕ)) (a b : StepAnswer) → FitsState version active opened s a →
    FitsState version active opened s b → Tells s active p seen a → Tells s active p seen b →
    SeesBy active s off window a → SeesBy active s off window b → a ≢ Refused Closed → b ≢ Refused Closed → a ≡ b
answer_once version true opened Start p seen off window a b f g t u h k m n = f ∙ sym g
answer_once version false opened Start p seen off window a b f g t u h k m n = f ∙ sym g
answer_once version true opened Stop p seen off window a b f g t u h k m n = f ∙ sym g
answer_once version false opened Stop p seen off window a b f g t u h k m n = f ∙ sym g
answer_once version true opened Window p seen off window a b f g t u h k m n = window_once off window a b h k
answer_once version false opened Window p seen off window a b f g t u h k m n = f ∙ sym g
answer_once version true opened Release p seen off window a b f g t u h k m n = release_once off window a b h k
answer_once version false opened Release p seen off window a b f g t u h k m n = f ∙ sym g
answer_once version active opened (Read address) p seen off window a b f g t u h k m n = t ∙ sym u
answer_once version active opened (Write address value) p seen off window a b f g t u h k m n = t ∙ sym u
answer_once version true opened (Load x) p seen off window a b f g t u h k m n = t ∙ sym u
answer_once version false opened (Load x) p seen off window a b f g t u h k m n = f ∙ sym g
answer_once version true opened (Command value) p seen off window a b f g t u h k m n = t ∙ sym u
answer_once version false opened (Command value) p seen off window a b f g t u h k m n = f ∙ sym g
answer_once version true opened (Await count) p seen off window a b f g t u h k m n =
    await_once count off window a b h k m n
answer_once version false opened (Await count) p seen off window a b f g t u h k m n = f ∙ sym g
answer_once version true opened Sent p seen off window a b f g t u h k m n =
    wait_once a b Done (Refused Closed) (p.tbs ≡ true) (p.tbs ≡ false) (p.closed ≡ true) t u m n
answer_once version false opened Sent p seen off window a b f g t u h k m n = f ∙ sym g
answer_once version active opened Interrupt p seen off window a b f g t u h k m n =
    wait_once a b Done (Refused Closed) (is_line_active p seen ≡ true) (is_line_active p seen ≡ false)
    (p.closed ≡ true) t u m n
answer_once version active opened (At bits) p seen off window a b f g t u h k m n = t ∙ sym u

-- ---- an act

sees_by : (active : Bool) (j : List Entry) (before : List TypedAct) (d : TypedAct) → SeesIf active j before d →
    SeesBy active d.step (off_by d.bits j (opened_by before)) (window_of j before d.bits) d.answer
sees_by true j before d h = h
sees_by false j before d h = tt

pub record IsOneAct (d e : TypedAct) (k l : List Entry) (q r : Registers) : Type 0 where
  pub act : d ≡ e
  pub entries : k ≡ l
  pub port : q ≡ r

module _ (version : ℕ) (seen : List Entry) (before : List TypedAct) (j k l : List Entry) (p q r : Registers)
    (d e : TypedAct)
    (is : IsPortAct p q j k before d) (it : IsPortAct p r j l before e) (same : d.step ≡ e.step)
    (h : IsPromised version seen before d) (g : IsPromised version seen before e) where
  bits_same : d.bits ≡ e.bits
  bits_same = is.now ∙ sym it.now

  abbrev active : Bool
  active = is_active before

  answers : d.answer ≡ e.answer
  answers =
      let F : Step → Type 0 = λ s. FitsState version active (opened_by before) s e.answer in
      let T : Step → Type 0 = λ s. Tells s active p (seen_now active j before) e.answer in
      let S : Step → ℕ → Type 0 =
      λ s n. SeesBy active s (off_by n seen (opened_by before)) (window_of seen before n) e.answer in
      let sees : S d.step d.bits =
      subst (λ n. S d.step n) (sym bits_same)
      (subst (λ s. S s e.bits) (sym same) (sees_by active seen before e g.sees)) in
      answer_once version active (opened_by before) d.step p (seen_now active j before)
      (off_by d.bits seen (opened_by before)) (window_of seen before d.bits) d.answer e.answer h.fits
      (subst F (sym same) g.fits) is.tells (subst T (sym same) it.tells) (sees_by active seen before d h.sees) sees
      h.patient g.patient

  gifts : d.gave ≡ e.gave
  gifts = is.gave ∙ (λ i. carried p (same i) (answers i)) ∙ sym it.gave

  pub act_once : IsOneAct d e k l q r
  act_once = record {
    act = λ i. record { step = same i; answer = answers i; bits = bits_same i; gave = gifts i };
    entries = is.taken ∙ ap (λ (u : List Up). j ++ entries_of_items u) gifts ∙ sym it.taken;
    port = is.left ∙ (λ i. ported p (same i) (answers i)) ∙ sym it.left;
  }

-- ---- acts, one right after the other

pub record AreOneList (ds es : List TypedAct) (k l : List Entry) (q r : Registers) : Type 0 where
  pub acts : ds ≡ es
  pub entries : k ≡ l
  pub port : q ≡ r

steps_push : (ds : List TypedAct) (d : TypedAct) →
    map (λ (x : TypedAct). x.step) (ds ++ d ∷ []) ≡ map (λ (x : TypedAct). x.step) ds ++ d.step ∷ []
steps_push [] d = refl
steps_push (x ∷ ds) d = ap (λ l. x.step ∷ l) (steps_push ds d)

pub acts_once : (version : ℕ) (seen : List Entry) (before : List TypedAct) (j : List Entry) (p : Registers)
    (ds es : List TypedAct) (k l : List Entry) (q r : Registers) → LeadOn before j p ds k q → LeadOn before j p es l r →
    map (λ (x : TypedAct). x.step) ds ≡ map (λ (x : TypedAct). x.step) es →
    EachAfter (IsPromised version seen) before ds → EachAfter (IsPromised version seen) before es →
    AreOneList ds es k l q r
acts_once version seen before j p ds es k l q r nothing_more nothing_more same h g =
    record { acts = refl; entries = refl; port = refl }
acts_once version seen before j p ds es k l q r nothing_more (one_more others e _ _ _ _ on it) same h g =
    absurd (not_last (map (λ (x : TypedAct). x.step) others) e.step (sym (same ∙ steps_push others e)))
acts_once version seen before j p ds es k l q r (one_more acts d _ _ _ _ on is) nothing_more same h g =
    absurd (not_last (map (λ (x : TypedAct). x.step) acts) d.step (sym (steps_push acts d) ∙ same))
acts_once version seen before j p ds es k l q r (one_more acts d m _ s _ on is)
    (one_more others e n _ t _ lead it) same h g =
    let parts = same_from_push (map (λ (x : TypedAct). x.step) acts) (map (λ (x : TypedAct). x.step) others) d.step
    e.step
    (sym (steps_push acts d) ∙ same ∙ steps_push others e) in
    let first = each_front (IsPromised version seen) before acts d h in
    let second = each_front (IsPromised version seen) before others e g in
    let front = acts_once version seen before j p acts others m n s t on lead parts.0 first.0 second.0 in
    let A : List Entry → Type 0 = λ x. IsPortAct t r x l (before ++ acts) e in
    let B : Registers → Type 0 = λ x. IsPortAct x r m l (before ++ acts) e in
    let C : List TypedAct → Type 0 = λ x. IsPortAct t r n l (before ++ x) e in
    let D : List TypedAct → Type 0 = λ x. IsPromised version seen (before ++ x) e in
    let one = act_once version seen (before ++ acts) m k l s q r d e is
    (subst B (sym front.port) (subst A (sym front.entries) (subst C (sym front.acts) it))) parts.1 first.1
    (subst D (sym front.acts) second.1) in
    record {
      acts = λ i. front.acts i ++ one.act i ∷ [];
      entries = one.entries;
      port = one.port;
    }
