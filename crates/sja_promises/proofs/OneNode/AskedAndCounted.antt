-- What is held and how many entries there are after an act more.
use Rattle.std.proofs.Common.{◌≡◌, ℕ, Bool, true, false, List, [], ◌∷◌, ◌++◌, refl, sym, ap, ◌∙◌, subst}
use Rattle.std.proofs.Common.{arith, inl, inr}
use Rattle.std.specs.Prelude.{◌⊎◌, ◌||◌, not}
use Rattle.std.proofs.lemmas.Bool.{false_from_ne_true, true_from_ne_false}
use Rattle.std.proofs.Math.Bool.{or-true}
use Rattle.can_node_rules.specs.declared.request.Request.{Request}
use Rattle.sja_journal.specs.declared.up.Up.{Up}
use Rattle.sja_journal.specs.declared.up.Up.TheVariants.{Start as StartItem, Credit, Send as SendItem, Stop as StopItem}
use Rattle.sja_journal.specs.declared.entry.Entry.{Entry}
use Rattle.sja_journal.specs.declared.entry.Entry.TheVariants.{Up as Item}
use Rattle.lemmas.specs.Gathering.{total}
use Rattle.sja_journal.specs.Places.{place_of}
use Rattle.sja_journal.specs.Verdicts.{IsLawful}
use Rattle.sja_link.specs.World.{is_send}
use Rattle.sja_regs.specs.declared.registers.Registers.{Registers}
use Rattle.sja_driver.specs.Carried.{asks_abort}
use Rattle.sja_driver.specs.TypedActs.{TypedAct, opened_by, is_active}
use Rattle.sja_promises.specs.Registering.{seen_now}
use Rattle.sja_driver.specs.Windows.{off_by}
use Rattle.sja_driver.specs.Asking.{IsAsked}
use Rattle.sja_driver.specs.Counted.{IsCounted}
use Rattle.sja_driver.specs.Linking.{IsLevel}
use Rattle.sja_driver.specs.Porting.{IsPorted}
use Rattle.sja_promises.proofs.OneNode.After.{Enters}
use Rattle.sja_promises.proofs.OneNode.After.Enters.{nothing, item}
use Rattle.sja_driver.proofs.OneNode.Asked.{off_known, asked_same, asked_start, asked_credit, asked_send, asked_stop}
use Rattle.sja_driver.proofs.OneNode.Counting.{counted_none, counted_item, counted_credit}
use Rattle.sja_driver.proofs.Registers.TbsAndAbort.{TbsIsRight}
use Rattle.sja_driver.proofs.Registers.TransmitBuffer.{tbs_by, tbs_step, stop_drops, busy_sends_none, abort_gives_none}
use Rattle.sja_driver.proofs.Registers.TransmitBuffer.{reset_sends_none}
use Rattle.sja_driver.proofs.Step.GivenKinds.{Kind}
use Rattle.sja_driver.proofs.Step.GivenKinds.Kind.{quiet, starts, credits, sends, stops}
use Rattle.sja_driver.proofs.Step.Modes.{abort_step}
use Rattle.sja_journal.proofs.Ledger.Small.{neither, no_item, one_item}
use Rattle.sja_promises.proofs.OneNode.Trying.{IsNext}
use Rattle.sja_promises.proofs.OneNode.Ported.{was_reset}

module _ (version : ℕ) (j k : List Entry) (acts : List TypedAct) (d : TypedAct) (p q : Registers)
    (e : Enters j k acts d)
    (next : IsNext j acts p q d) (h : IsPorted version j acts p) (before : IsLevel j acts)
    (after : IsLevel k (acts ++ d ∷ [])) (kind : Kind (is_active acts) (opened_by acts) d.step d.answer d.gave)
    (buffer : TbsIsRight p) where
  reset_mode : is_active acts ≡ false → p.mode.rm ≡ true
  reset_mode = was_reset version j k acts d p q e next h before after kind buffer

  tbs_now : q.tbs ≡ tbs_by p.tbs d.gave
  tbs_now = ap (λ (r : Registers). r.tbs) next.left ∙ tbs_step p d.step d.answer ∙ ap (tbs_by p.tbs) (sym next.gave)

  -- where a request was given the controller was on the bus, and its transmit buffer released
  pub was_on : (request : Request) → d.gave ≡ SendItem request ∷ [] → (p.mode.rm ≡ false) × (p.tbs ≡ true)
  was_on request gave =
      let some : total is_send d.gave ≡ 1 = ap (total is_send) gave in
      let same = ap (total is_send) next.gave in (
        false_from_ne_true p.mode.rm (λ e.
            let none = reset_sends_none p.version p (opened_by acts) d.step d.answer (is_active acts)
            (seen_now (is_active acts) j acts) next.fits next.tells e in omega (arith, some, same, none)),
        true_from_ne_false p.tbs (λ e.
            let none = busy_sends_none p.version p (opened_by acts) d.step d.answer (is_active acts)
            (seen_now (is_active acts) j acts) next.fits next.tells e in omega (arith, some, same, none)),
      )

  -- and bus-off doesn't stand
  pub on_bus : (request : Request) → d.gave ≡ SendItem request ∷ [] → (place_of j).off ≡ false
  on_bus request gave = false_from_ne_true (place_of j).off (λ off.
      let known : off_by (place_of j).bits j (opened_by acts) ≡ true =
      ap (λ (a : ℕ). off_by (place_of j).bits j a) (sym before.begun) ∙ off_known j off in
      let rm : p.mode.rm ≡ true = h.reset ∙ ap (λ (b : Bool). not (is_active acts) || b) known
      ∙ or-true (not (is_active acts)) in
      neither p.mode.rm rm (was_on request gave).0)

  pub asked_after : IsAsked j p → IsLawful j → IsAsked k q
  asked_after asked lawful = by kind e
    where
      over : (l : List Entry) → k ≡ l → IsAsked l q → IsAsked k q
      over l is a = subst (λ (x : List Entry). IsAsked x q) (sym is) a

      by : Kind (is_active acts) (opened_by acts) d.step d.answer d.gave → Enters j k acts d → IsAsked k q
      by (quiet none o same) (nothing x is) =
          over j is (asked_same j p q lawful asked j refl (tbs_now ∙ ap (tbs_by p.tbs) none))
      by (quiet none o same) (item u gave is at) = absurd (no_item u (sym gave ∙ none))
      by (starts was few config given o same) (nothing none is) = absurd (no_item _ (sym given ∙ none))
      by (starts was few config given o same) (item u gave is at) =
          over (j ++ Item (StartItem config) ∷ []) (is
          ∙ ap (λ (x : Up). j ++ Item x ∷ []) (one_item _ _ (sym gave ∙ given)))
          (asked_start j p q lawful asked config (buffer.in_reset (reset_mode was)) (tbs_now ∙ ap (tbs_by p.tbs) given))
      by (credits was n given o same) (nothing none is) = absurd (no_item _ (sym given ∙ none))
      by (credits was n given o same) (item u gave is at) =
          over (j ++ Item (Credit n) ∷ []) (is ∙ ap (λ (x : Up). j ++ Item x ∷ []) (one_item _ _ (sym gave ∙ given)))
          (asked_credit j p q lawful asked n (tbs_now ∙ ap (tbs_by p.tbs) given))
      by (sends was request given o same) (nothing none is) = absurd (no_item _ (sym given ∙ none))
      by (sends was request given o same) (item u gave is at) =
          over (j ++ Item (SendItem request) ∷ []) (is
          ∙ ap (λ (x : Up). j ++ Item x ∷ []) (one_item _ _ (sym gave ∙ given)))
          (asked_send j p q lawful asked request (on_bus request given) (tbs_now ∙ ap (tbs_by p.tbs) given))
      by (stops was given o same) (nothing none is) = absurd (no_item _ (sym given ∙ none))
      by (stops was given o same) (item u gave is at) =
          over (j ++ Item StopItem ∷ []) (is ∙ ap (λ (x : Up). j ++ Item x ∷ []) (one_item _ _ (sym gave ∙ given)))
          (asked_stop j p q lawful asked (tbs_now ∙ ap (tbs_by p.tbs) given))

  -- ---- entries by kinds

  stands : q.abort ≡ true → (p.abort ≡ true) ⊎ (asks_abort d.step d.answer ≡ true)
  stands is = abort_step p d.step d.answer (sym (ap (λ (r : Registers). r.abort) next.left) ∙ is)

  -- none stands after a start, a request or a stop
  none_stands : (u : Up) → d.gave ≡ u ∷ [] → (p.abort ≡ true → ⊥) → q.abort ≡ false
  none_stands u gave never = false_from_ne_true q.abort (λ is. elim (stands is) [
    | inl was ↦ never was
    | inr asks ↦ no_item u (sym gave ∙ next.gave ∙ abort_gives_none p d.step d.answer asks)
  ])

  pub counted_after : IsCounted j acts p → IsLawful j → IsCounted k (acts ++ d ∷ []) q
  counted_after counted lawful = by kind e
    where
      over : (l : List Entry) → k ≡ l → IsCounted l (acts ++ d ∷ []) q → IsCounted k (acts ++ d ∷ []) q
      over l is a = subst (λ (x : List Entry). IsCounted x (acts ++ d ∷ []) q) (sym is) a

      by : Kind (is_active acts) (opened_by acts) d.step d.answer d.gave → Enters j k acts d →
          IsCounted k (acts ++ d ∷ []) q
      by (quiet none o same) (nothing x is) = over j is (counted_none j acts d p q counted stands none)
      by (quiet none o same) (item u gave is at) = absurd (no_item u (sym gave ∙ none))
      by (starts was few config given o same) (nothing none is) = absurd (no_item _ (sym given ∙ none))
      by (starts was few config given o same) (item u gave is at) =
          let free = (buffer.in_reset (reset_mode was)) in
          over (j ++ Item u ∷ []) is (counted_item j acts d p q counted stands lawful u gave
          (none_stands u gave (λ s. neither p.tbs free (buffer.in_abort s))))
      by (credits was n given o same) (nothing none is) = absurd (no_item _ (sym given ∙ none))
      by (credits was n given o same) (item u gave is at) =
          over (j ++ Item (Credit n) ∷ []) (is ∙ ap (λ (x : Up). j ++ Item x ∷ []) (one_item _ _ (sym gave ∙ given)))
          (counted_credit j acts d p q counted stands n given)
      by (sends was request given o same) (nothing none is) = absurd (no_item _ (sym given ∙ none))
      by (sends was request given o same) (item u gave is at) =
          over (j ++ Item u ∷ []) is (counted_item j acts d p q counted stands lawful u gave
          (none_stands u gave (λ s. neither p.tbs (was_on request given).1 (buffer.in_abort s))))
      by (stops was given o same) (nothing none is) = absurd (no_item _ (sym given ∙ none))
      by (stops was given o same) (item u gave is at) =
          over (j ++ Item u ∷ []) is (counted_item j acts d p q counted stands lawful u gave
          (ap (λ (r : Registers). r.abort) next.left ∙ stop_drops p d.step d.answer (sym next.gave ∙ given)))
