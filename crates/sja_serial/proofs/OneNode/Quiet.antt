-- A step that gave nothing: no link has anything for the bus after it.
use Rattle.sja_steps.specs.declared.step_answer.StepAnswer.{StepAnswer}
use Rattle.std.proofs.Common.{◌≡◌, ℕ, suc, ◌<◌, Bool, List, [], ◌++◌, length, refl, sym, ap, ◌∙◌, subst}
use Rattle.std.proofs.Common.{append-nil, arith, inl, inr}
use Rattle.std.specs.Prelude.{slice_index_or, slice_set, Option}
use Rattle.std.proofs.lemmas.Bool.{cases_eq}
use Rattle.std.proofs.lemmas.List.{append_cancel_left, get_or-set_same, get_or-set_other}
use Rattle.sja_journal.specs.declared.entry.Entry.{Entry}
use Rattle.sja_journal.specs.declared.up.Up.{Up}
use Rattle.sja_journal.specs.Accounts.{account}
use Rattle.sja_link.specs.Deques.{Deques, Lies, AreAlike, up_on}
use Rattle.sja_journal.specs.Lists.{Lists}
use Rattle.sja_bus_rules.specs.Buses.{AllDry}
use Rattle.sja_journal.specs.Links.{stops_of}
use Rattle.sja_bus_rules.specs.Telling.{IsUntold}
use Rattle.sja_bus_rules.specs.Wire.{journal_at}
use Rattle.sja_regs.specs.declared.registers.Registers.{Registers}
use Rattle.sja_steps.specs.declared.step.Step.{Step}
use Rattle.sja_driver.specs.declared.logged_driver.LoggedDriver.{LoggedDriver}
use Rattle.sja_driver.specs.TypedActs.{TypedAct, acts_at, given_in, acts_of}
use Rattle.sja_driver.specs.Acting.{with_both}
use Rattle.sja_driver.specs.AnyDrivers.{link_used}
use Rattle.sja_driver.specs.LoggedDrivers.{driver_of, StaysLawful}
use Rattle.sja_driver.specs.Tries.{gave_by}
use Rattle.sja_promises.specs.Nodes.{IsNode}
use Rattle.sja_serial.specs.Serial.{Setup, SerialValue, StandsAt}
use Rattle.sja_driver.proofs.Trace.Stepping.{given_taken}
use Rattle.sja_promises.proofs.OneNode.Trying.{StepsHere}

pub as_untold : (b : Bool) (j : List Entry) → IsUntold b b j j
as_untold b j = record { stays = λ e. e; takes = λ differ. absurd (differ refl); none = λ e same. e }

module _ {setup : Setup} {r : SerialValue} {acts : List (List TypedAct)} (i : ℕ) (stood : StandsAt setup r acts)
    {was now : LoggedDriver} {p q : Registers} {old given : Deques} {one : Step} {answer : Option StepAnswer}
    (node : IsNode setup.version (slice_index_or setup.steps i 0) (journal_at r.bus.journals i) (acts_at acts i) was
    p old)
    (st : StepsHere was now old given p q one answer)
    (stays : StaysLawful AreAlike Lies was now old given answer)
    (quiet : gave_by p one st.tried ≡ []) where
  abbrev lists : ℕ → Lists
  lists a = account (journal_at r.bus.journals i) (suc a)
      (record { got = node.linked.holds.got a; given = given_in (acts_of (acts_at acts i) (suc a)) })

  -- all that was given was taken
  all_taken : (a : ℕ) → (lists a).given ≡ (lists a).taken
  all_taken a = given_taken (acts_at acts i) (journal_at r.bus.journals i) (suc a) (node.in_time.when (suc a))

  -- so nothing lies on the link that the step was tried at, which took no item more
  here : (a : ℕ) → suc a ≡ link_used (driver_of was) → up_on given (suc a) ≡ []
  here a e =
      let was_so : Lies old (link_used (driver_of was)) (lists a) =
      subst (λ (b : ℕ). Lies old b (lists a)) e (node.linked.holds.kept a) in
      let now_so = subst (λ (b : ℕ). Lies given b (with_both (lists a) st.acts.does.got (gave_by p one st.tried)))
      (sym e) (st.acts.does.lists (lists a) was_so) in
      append_cancel_left (lists a).taken (up_on given (suc a)) []
      (sym now_so.up ∙ ap (λ (g : List Up). (lists a).given ++ g) quiet ∙ append-nil (lists a).given ∙ all_taken a
      ∙ sym (append-nil (lists a).taken))

  -- nor on another
  elsewhere : (a : ℕ) → (suc a ≡ link_used (driver_of was) → ⊥) → up_on given (suc a) ≡ []
  elsewhere a differ = let so = stays.others (suc a) differ (lists a) (node.linked.holds.kept a) in
      append_cancel_left (lists a).taken (up_on given (suc a)) []
      (sym so.up ∙ all_taken a ∙ sym (append-nil (lists a).taken))

  given_dry : (a : ℕ) → up_on given (suc a) ≡ []
  given_dry a = elim (cases_eq (suc a) (link_used (driver_of was))) [
    | inl e ↦ here a e
    | inr differ ↦ elsewhere a differ
  ]

  -- and nothing on those of another node
  pub all_dry : AllDry (λ (s : Deques) (a : ℕ). up_on s a ≡ []) r.bus.journals (slice_set r.links i given)
  all_dry m d less =
      let at = stops_of (journal_at r.bus.journals m) in
      let there : m < setup.nodes = let c = stood.count.journals in omega (arith, c, less) in
      elim (cases_eq i m) [
        | inl e ↦
            let few : i < length r.links = let c = stood.ends.count in omega (arith, c, there, e) in
            subst (λ (k : ℕ). up_on (slice_index_or (slice_set r.links i given) k d) (suc at) ≡ []) e
            (ap (λ (s : Deques). up_on s (suc at)) (get_or-set_same r.links i given d few) ∙ given_dry at)
        | inr differ ↦
            ap (λ (s : Deques). up_on s (suc at)) (get_or-set_other r.links i m given d (λ e. differ (sym e)))
            ∙ (stood.nodes m was p d there).linked.taken at
      ]
