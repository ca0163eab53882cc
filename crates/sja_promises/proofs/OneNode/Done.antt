-- A step that was done: what it gave, and what its driver did and holds after it.
use Rattle.std.proofs.Common.{◌≡◌, ◌≢◌, ℕ, suc, ◌+◌, Bool, List, [], ◌∷◌, ◌++◌, length, sym, ap}
use Rattle.std.proofs.Common.{◌∙◌, subst, arith}
use Rattle.std.specs.Prelude.{Some}
use Rattle.sja_journal.specs.declared.up.Up.{Up}
use Rattle.sja_journal.specs.declared.entry.Entry.{Entry}
use Rattle.sja_link.specs.Deques.{Deques, Lies}
use Rattle.sja_link.specs.Looking.{one_if}
use Rattle.sja_journal.specs.Parts.{part}
use Rattle.sja_journal.specs.Carried.{taken_of}
use Rattle.sja_journal.specs.Places.{place_of}
use Rattle.sja_journal.specs.Verdicts.{IsLawful as IsLawfulJournal}
use Rattle.sja_journal.specs.Links.{stops_of}
use Rattle.sja_regs.specs.declared.registers.Registers.{Registers}
use Rattle.sja_steps.specs.declared.step.Step.{Step}
use Rattle.sja_steps.specs.declared.step_answer.StepAnswer.{StepAnswer}
use Rattle.sja_driver.specs.declared.logged_driver.LoggedDriver.{LoggedDriver}
use Rattle.sja_driver.specs.TypedActs.{TypedAct, opens_by, opened_by, is_active, given_in, acts_of, Gives}
use Rattle.sja_driver.specs.Holding.{HoldsBy}
use Rattle.sja_driver.specs.LoggedDrivers.{node_of, driver_of, log_of}
use Rattle.sja_driver.specs.Logs.{Traces}
use Rattle.sja_driver.proofs.Step.Giving.{gives_carried}
use Rattle.sja_driver.proofs.Trace.Stepping.{given_push, given_taken}
use Rattle.sja_driver.specs.Linking.{IsLevel}
use Rattle.sja_promises.specs.Nodes.{IsNode}
use Rattle.sja_driver.proofs.Step.GivenKinds.{Kind, kind_of}
use Rattle.sja_driver.proofs.Step.GivenKinds.Kind.{quiet, starts, credits, sends, stops}
use Rattle.sja_journal.proofs.Growing.Taking.{waiting, AtMostOne}
use Rattle.sja_promises.proofs.OneNode.StepTried.{Comes, comes}
use Rattle.sja_promises.proofs.OneNode.Trying.{StepsHere}

-- ---- what an act gives

pub at_most_one : (active : Bool) (n : ℕ) (s : Step) (r : StepAnswer) (gave : List Up) → Kind active n s r gave →
    AtMostOne gave
at_most_one active n s r gave (quiet none o same) =
    let e : length gave ≡ 0 = ap (λ l. length l) none in omega (arith, e)
at_most_one active n s r gave (starts was few config is o same) =
    let e : length gave ≡ 1 = ap (λ l. length l) is in omega (arith, e)
at_most_one active n s r gave (credits was k is o same) =
    let e : length gave ≡ 1 = ap (λ l. length l) is in omega (arith, e)
at_most_one active n s r gave (sends was request is o same) =
    let e : length gave ≡ 1 = ap (λ l. length l) is in omega (arith, e)
at_most_one active n s r gave (stops was is o same) =
    let e : length gave ≡ 1 = ap (λ l. length l) is in omega (arith, e)

-- it gives on the link that is read
pub is_read : (j : List Entry) (acts : List TypedAct) (d : TypedAct) → IsLevel j acts →
    Kind (is_active acts) (opened_by acts) d.step d.answer d.gave → d.gave ≢ [] →
    opened_by acts + opens_by d ≡ suc (stops_of j)
is_read j acts d level (quiet none o same) some = absurd (some none)
is_read j acts d level (starts was few config is o same) some =
    let e = level.ended in let w : one_if (is_active acts) ≡ 0 = ap one_if was in omega (arith, e, w, o)
is_read j acts d level (credits was k is o same) some =
    let e = level.ended in let w : one_if (is_active acts) ≡ 1 = ap one_if was in omega (arith, e, w, o)
is_read j acts d level (sends was request is o same) some =
    let e = level.ended in let w : one_if (is_active acts) ≡ 1 = ap one_if was in omega (arith, e, w, o)
is_read j acts d level (stops was is o same) some =
    let e = level.ended in let w : one_if (is_active acts) ≡ 1 = ap one_if was in omega (arith, e, w, o)

-- ---- a step that was done

module _ (version : ℕ) (size : ℕ) (j : List Entry) (acts : List TypedAct) (was now : LoggedDriver)
    (p q : Registers) (links given : Deques) (one : Step) (answer : StepAnswer)
    (h : IsNode version size j acts was p links) (lawful : IsLawfulJournal j)
    (st : StepsHere was now links given p q one (Some answer)) where
  pub all_taken : (a : ℕ) → given_in (acts_of acts a) ≡ taken_of (part j a)
  all_taken a = given_taken acts j a (h.in_time.when a)

  -- its act, what kind that is, and what the driver did and holds after it, and what waits for the bus
  pub record Doing : Type 0 where
    pub is_next : Comes j acts (log_of was) links (node_of was) lawful h.linked.level.begun all_taken p q one answer
        st.tried
    pub kind : Kind (is_active acts) (opened_by acts) is_next.act.step is_next.act.answer is_next.act.gave
    pub trace : Traces version (driver_of now) (log_of now) (acts ++ is_next.act ∷ [])
    pub holds : HoldsBy Lies (acts ++ is_next.act ∷ []) (driver_of now) (log_of now) j given
    pub waits_now : (a : ℕ) → given_in (acts_of (acts ++ is_next.act ∷ []) a)
        ≡ taken_of (part j a) ++ waiting (opened_by acts + opens_by is_next.act) is_next.act.gave a

  pub doing : Doing
  doing =
      let trace : Traces p.version (driver_of was) (log_of was) acts =
      subst (λ (n : ℕ). Traces n (driver_of was) (log_of was) acts) (sym h.ported.version_is) h.traced.traces in
      let c : Comes j acts (log_of was) links (node_of was) lawful h.linked.level.begun all_taken p q one answer
      st.tried =
      comes j acts (log_of was) links (node_of was) lawful h.linked.level.begun all_taken p q one answer
      (driver_of was) (driver_of now) given st.tried trace h.traced.lawful.own h.linked.holds h.ported.unclosed st.met
      st.acts in
      let d = c.act in
      let next = c.next in
      let gives : Gives d.step d.answer d.gave =
      subst (λ (l : List Up). Gives d.step d.answer l) (sym next.gave) (gives_carried p d.step d.answer) in
      let b = opened_by acts + opens_by d in record {
        is_next = c;
        kind = kind_of p.version (is_active acts) (opened_by acts) d.step d.answer d.gave next.fits
            gives;
        trace = subst (λ (n : ℕ). Traces n (driver_of now) (log_of now) (acts ++ d ∷ [])) h.ported.version_is
            (subst (λ (l : List TypedAct). Traces p.version (driver_of now) (log_of now) (acts ++ l)) c.only
            ((st.goes (place_of j).bits).traces acts trace));
        holds = subst (λ (l : List TypedAct). HoldsBy Lies (acts ++ l) (driver_of now) (log_of now) j given) c.only
            ((st.goes (place_of j).bits).holds acts j trace h.linked.holds);
        waits_now = λ a. given_push acts d a ∙ ap (λ (l : List Up). l ++ waiting b d.gave a) (all_taken a);
      }
