-- What a driver in a thread of its own has set, through a try of a step.
use Rattle.std.proofs.Common.{◌≡◌, ◌++◌, ℕ, Bool, true, List, [], ◌∷◌, length, refl, sym, ap, ◌∙◌, subst}
use Rattle.std.proofs.Common.{Some, None, arith, append-nil, append_assoc}
use Rattle.std.proofs.lemmas.List.{length-append}
use Rattle.can_frame.specs.declared.buffer_view.BufferView.{BufferView}
use Rattle.sja_link.specs.DriverLedgers.{held_by, knows_bus_off}
use Rattle.sja_journal.specs.Lists.{Lists}
use Rattle.sja_link.specs.Showing.{seen_of}
use Rattle.sja_regs.specs.declared.registers.Registers.{Registers}
use Rattle.sja_regs.specs.Registers.{at_power_on}
use Rattle.sja_regs.specs.DriverSettings.{SettingsValue, settings_in, HasSettings, with_settings}
use Rattle.sja_steps.specs.declared.step.Step.{Step}
use Rattle.sja_steps.specs.declared.step_answer.StepAnswer.{StepAnswer}
use Rattle.sja_steps.specs.declared.step_answer.StepAnswer.TheVariants.{Done as DoneAnswer, Released as ReleasedAnswer}
use Rattle.sja_driver.specs.declared.any_driver.AnyDriver.{AnyDriver}
use Rattle.sja_driver.specs.declared.any_driver.AnyDriver.TheVariants.{InReset, InActive}
use Rattle.sja_driver.specs.Acting.{Acts, IfOut}
use Rattle.sja_driver.specs.AnyDrivers.{is_out, held_of, off_of, seen_by}
use Rattle.sja_driver.specs.Carried.{Sees, Tells}
use Rattle.sja_driver.specs.TypedActs.{TypedAct, is_active}
use Rattle.sja_driver.specs.Logs.{acts_by}
use Rattle.sja_driver.specs.Tries.{Tried, answer_of}
use Rattle.sja_driver.specs.Tries.Tried.{Unmet, Answered, Released, Ended}
use Rattle.sja_thread_promises.specs.Accessing.{LeadOn}
use Rattle.sja_thread_promises.specs.Setting.{LeadToSettings, IsDoneAt}
use Rattle.sja_thread_promises.specs.Setting.LeadToSettings.{step_done}
use Rattle.sja_thread_promises.specs.Accessing.LeadOn.{nothing_more, one_more}
use Rattle.sja_threads.proofs.Twin.Led.{has_own}

-- some registers with these settings, in reset mode just where they are
abbrev pub registers_with : SettingsValue → Registers
registers_with s = record (with_settings (at_power_on 1) s) { mode = s.mode }

pub has_those : (s : SettingsValue) → HasSettings (registers_with s) s
has_those s = has_own (registers_with s)

seen_is : (now : AnyDriver) → seen_by now ≡ seen_of (off_of now) (held_of now)
seen_is (InReset d) = refl
seen_is (InActive d) = refl

if_out : (was : AnyDriver) (P : Type 0) → IfOut was P → is_out was ≡ true → P
if_out (InReset d) P p out = absurd cc
if_out (InActive d) P p out = p

module _ {E : Type 0} (alike : E → E → Type 0) (stands : E → Lists → Type 0) (dry full : E → Type 0) (a b : E)
    (p q : Registers) (which : Step) (was now : AnyDriver) (set set_now : SettingsValue) (has : HasSettings p set) where
  -- what was set before a try leads to what is set after it, by the act that it was
  pub leads_try : (o : Tried) (bits : ℕ) →
      ((answer : StepAnswer) → answer_of o ≡ Some answer → set_now ≡ settings_in q) →
      (answer_of o ≡ None → set_now ≡ set) → Acts alike stands dry full a b p q which was now o →
      (before : List TypedAct) → is_active (before ++ []) ≡ is_out was →
      LeadOn before set (acts_by p which o bits) set_now
  leads_try Unmet bits met unmet acting before out =
      subst (λ (s : SettingsValue). LeadOn before set [] s) (sym (unmet refl)) nothing_more
  leads_try (Answered answer) bits met unmet acting before out =
      subst (λ (s : SettingsValue). LeadOn before set (acts_by p which (Answered answer) bits) s)
      (sym (met answer refl ∙ ap settings_in acting.port))
      (one_more [] _ set p nothing_more has (record {
        window = held_of now;
        off = off_of now;
        tells = subst (λ (b : Bool). Tells which b p (seen_of (off_of now) (held_of now)) answer) (sym out)
            (subst (λ (s : BufferView). Tells which (is_out was) p s answer) (seen_is now) acting.tells);
        sees = λ active. if_out was (Sees which (off_of now) (held_of now) answer) acting.sees (sym out ∙ active);
        gave = refl;
      }))
  leads_try (Released m) bits met unmet acting before out =
      subst (λ (s : SettingsValue). LeadOn before set (acts_by p which (Released m) bits) s)
      (sym (met (ReleasedAnswer (length m)) refl ∙ ap settings_in acting.port))
      (one_more [] _ set p nothing_more has (record {
        window = m ∷ held_of now;
        off = off_of now;
        tells = subst (λ (s : Step). Tells s (is_active (before ++ [])) p (seen_of (off_of now) (m ∷ held_of now))
            (ReleasedAnswer (length m))) (sym acting.kind) tt;
        sees = λ active. if_out was (Sees which (off_of now) (m ∷ held_of now) (ReleasedAnswer (length m))) acting.sees
            (sym out ∙ active);
        gave = refl;
      }))
  leads_try (Ended ledger) bits met unmet acting before out =
      subst (λ (s : SettingsValue). LeadOn before set (acts_by p which (Ended ledger) bits) s)
      (sym (met DoneAnswer refl ∙ ap settings_in acting.port))
      (one_more [] _ set p nothing_more has (record {
        window = held_by ledger;
        off = knows_bus_off ledger;
        tells = subst (λ (s : Step). Tells s (is_active (before ++ [])) p (seen_of (knows_bus_off ledger)
            (held_by ledger)) DoneAnswer) (sym acting.kind) tt;
        sees = λ active. if_out was (Sees which (knows_bus_off ledger) (held_by ledger) DoneAnswer) acting.sees
            (sym out ∙ active);
        gave = refl;
      }))

-- where one act leads on, it is done at registers that have what was set
pub record IsDoneFrom (set : SettingsValue) (active : Bool) (d : TypedAct) : Type 0 where
  pub at : Registers
  pub has : HasSettings at set
  pub done : IsDoneAt active at d

none_leads : (before : List TypedAct) (set : SettingsValue) (acts : List TypedAct) (last : SettingsValue) →
    LeadOn before set acts last → acts ≡ [] → last ≡ set
none_leads before set _ _ nothing_more is = refl
none_leads before set _ _ (one_more acts d s p l has done) is =
    absurd (let none = ap (λ (l : List TypedAct). length l) is in
    let long = length-append acts (d ∷ []) in omega (arith, none, long))

first_is : (a b : TypedAct) → a ∷ [] ≡ b ∷ [] → a ≡ b
first_is a b e = cc

one_leads : (before : List TypedAct) (set : SettingsValue) (d : TypedAct) (acts : List TypedAct) (last : SettingsValue)
    →
    LeadOn before set acts last → acts ≡ d ∷ [] → IsDoneFrom set (is_active before) d
one_leads before set d _ _ nothing_more is = absurd (let none : [] ≡ d ∷ [] = is in cc)
one_leads before set d _ _ (one_more (x ∷ acts) y s p l has done) is =
    absurd (let two = ap (λ (l : List TypedAct). length l) is in
    let long = length-append acts (y ∷ []) in omega (arith, two, long))
one_leads before set d _ _ (one_more [] y s p l has done) is = record {
  at = p;
  has = subst (λ (t : SettingsValue). HasSettings p t) (none_leads before set [] s l refl) has;
  done = subst (λ (x : TypedAct). IsDoneAt (is_active before) p x) (first_is y d is)
      (subst (λ (l : List TypedAct). IsDoneAt (is_active l) p y) (append-nil before) done);
}

pub done_from : (before : List TypedAct) (set : SettingsValue) (d : TypedAct) (last : SettingsValue) →
    LeadOn before set (d ∷ []) last → IsDoneFrom set (is_active before) d
done_from before set d last l = one_leads before set d (d ∷ []) last l refl

-- ---- one after the other

-- more acts, and then others
pub lead_more : (before xs : List TypedAct) (from mid : SettingsValue) (ys : List TypedAct) (last : SettingsValue) →
    LeadOn before from xs mid → LeadOn (before ++ xs) mid ys last → LeadOn before from (xs ++ ys) last
lead_more before xs from mid ys last l nothing_more =
    subst (λ (z : List TypedAct). LeadOn before from z mid) (sym (append-nil xs)) l
lead_more before xs from mid ys last l (one_more acts d s p q has done) =
    subst (λ (z : List TypedAct). LeadOn before from z last) (append_assoc xs acts (d ∷ []))
    (one_more (xs ++ acts) d s p (lead_more before xs from mid acts s l q) has
    (subst (λ (z : List TypedAct). IsDoneAt (is_active z) p d) (append_assoc before xs acts) done))

-- from the first acts on
pub lead_all : (first : SettingsValue) (before : List TypedAct) (mid : SettingsValue) (ys : List TypedAct)
    (last : SettingsValue) → LeadToSettings first before mid → LeadOn before mid ys last →
    LeadToSettings first (before ++ ys) last
lead_all first before mid ys last l nothing_more =
    subst (λ (z : List TypedAct). LeadToSettings first z mid) (sym (append-nil before)) l
lead_all first before mid ys last l (one_more acts d s p q has done) =
    subst (λ (z : List TypedAct). LeadToSettings first z last) (append_assoc before acts (d ∷ []))
    (step_done (before ++ acts) d s p (lead_all first before mid acts s l q) has done)
