-- The port after an act more.
use Rattle.std.proofs.Common.{◌≡◌, ℕ, ◌+◌, ◌<◌, Bool, true, false, List, [], ◌∷◌, ◌++◌, refl, sym, ap, ◌∙◌, subst}
use Rattle.std.proofs.Common.{append_assoc, arith, inl, inr}
use Rattle.std.specs.Prelude.{◌||◌, not}
use Rattle.sja_journal.specs.declared.entry.Entry.{Entry}
use Rattle.lemmas.specs.Gathering.{total}
use Rattle.sja_link.specs.Looking.{off_among}
use Rattle.sja_journal.specs.Places.{place_of}
use Rattle.sja_link.specs.World.{is_send}
use Rattle.sja_journal.proofs.JournalEntries.Entering.{of_part_later}
use Rattle.sja_regs.specs.declared.registers.Registers.{Registers}
use Rattle.sja_driver.specs.Carried.{ported}
use Rattle.sja_driver.specs.TypedActs.{TypedAct, opens_by, opened_by, active_after, is_active}
use Rattle.sja_driver.proofs.LogOfSteps.Sections.{active_push, opened_push}
use Rattle.sja_driver.specs.Aborting.{IsCommanded}
use Rattle.sja_driver.specs.Settings.{settings_of, after_setting}
use Rattle.sja_promises.specs.Registering.{seen_now}
use Rattle.sja_driver.specs.Windows.{off_by}
use Rattle.sja_driver.specs.Alike.{AreAlike}
use Rattle.sja_driver.specs.Linking.{IsLevel}
use Rattle.sja_driver.specs.Porting.{is_reset, IsPorted}
use Rattle.sja_driver.proofs.Registers.Activation.{activation_step}
use Rattle.sja_promises.proofs.OneNode.After.{Enters, same_put, same_bits, asked_more}
use Rattle.sja_driver.proofs.Registers.TbsAndAbort.{TbsIsRight}
use Rattle.sja_driver.proofs.Registers.TransmitBuffer.{busy_sends_none, abort_gives_none}
use Rattle.sja_driver.proofs.Step.GivenKinds.{Kind, opened_from}
use Rattle.sja_driver.proofs.Step.GivenKinds.Kind.{quiet, starts, credits, sends, stops}
use Rattle.sja_promises.proofs.Account.Items.{off_same, settings_same, settings_push}
use Rattle.sja_driver.proofs.Step.Modes.{rm_step, closed_step, version_step, abort_step}
use Rattle.sja_driver.proofs.OneNode.Ports.{alike_step}
use Rattle.sja_promises.proofs.OneNode.Trying.{IsNext}

module _ (version : ℕ) (j k : List Entry) (acts : List TypedAct) (d : TypedAct) (p q : Registers)
    (e : Enters j k acts d)
    (next : IsNext j acts p q d) (h : IsPorted version j acts p) (before : IsLevel j acts)
    (after : IsLevel k (acts ++ d ∷ [])) (kind : Kind (is_active acts) (opened_by acts) d.step d.answer d.gave)
    (buffer : TbsIsRight p) where
  -- the controller of a driver in reset was in reset mode
  pub was_reset : is_active acts ≡ false → p.mode.rm ≡ true
  was_reset out = h.reset ∙ ap (λ (b : Bool). not b || off_by (place_of j).bits j (opened_by acts)) out

  was_started : opens_by d ≡ 1 → p.mode.rm ≡ true
  was_started one =
      was_reset (opened_from (is_active acts) (opened_by acts) d.step d.answer d.gave kind one).0

  set_after : AreAlike (ported p d.step d.answer) (settings_of version k (acts ++ d ∷ []))
  set_after =
      let same = same_put j k acts d e in
      let rm : p.mode.rm ≡ (not (is_active acts) || off_by d.bits j (opened_by acts)) =
      h.reset ∙ ap (λ (n : ℕ). not (is_active acts) || off_by n j (opened_by acts)) (sym next.now) in
      let is : settings_of version k (acts ++ d ∷ []) ≡ after_setting p.mode.rm (settings_of version j acts) d.step
      d.answer =
      settings_same version j k same (acts ++ d ∷ []) ∙ settings_push version j acts d
      ∙ ap (λ (b : Bool). after_setting b (settings_of version j acts) d.step d.answer) (sym rm) in
      subst (λ (r : Registers). AreAlike (ported p d.step d.answer) r) (sym is)
      (alike_step p (settings_of version j acts) d.step d.answer was_started h.set)

  -- nothing opened, and so what is known of bus-off is the same
  reset_same : opens_by d ≡ 0 → (ported p d.step d.answer).mode.rm ≡ is_reset k (acts ++ d ∷ [])
  reset_same o =
      let n : opened_by (acts ++ d ∷ []) ≡ opened_by acts =
      let more = opened_push acts d in omega (arith, more, o) in
      let off : off_by (place_of k).bits k (opened_by (acts ++ d ∷ [])) ≡ off_by (place_of j).bits j
      (opened_by acts) =
      off_same j k (same_put j k acts d e) (place_of k).bits (opened_by (acts ++ d ∷ []))
      ∙ ap (λ (b : ℕ). off_by b j (opened_by (acts ++ d ∷ []))) (same_bits j k acts d e)
      ∙ ap (λ (a : ℕ). off_by (place_of j).bits j a) n in
      (rm_step p d.step d.answer (is_active acts) (is_active acts) (seen_now (is_active acts) j acts)
      (off_by (place_of j).bits j (opened_by acts)) next.tells h.reset).0 o
      ∙ ap (λ (b : Bool). not b || off_by (place_of j).bits j (opened_by acts)) (sym (active_push false acts d))
      ∙ ap (λ (b : Bool). not (is_active (acts ++ d ∷ [])) || b) (sym off)

  -- an activation was opened, in which nothing was put
  reset_new : opens_by d ≡ 1 → active_after (is_active acts) d.step d.answer ≡ true →
      (ported p d.step d.answer).mode.rm ≡ is_reset k (acts ++ d ∷ [])
  reset_new o now_active =
      let later : (place_of j).activation < opened_by (acts ++ d ∷ []) =
      let more = opened_push acts d in let b = before.begun in omega (arith, more, o, b) in
      let off : off_by (place_of k).bits k (opened_by (acts ++ d ∷ [])) ≡ false =
      off_same j k (same_put j k acts d e) (place_of k).bits (opened_by (acts ++ d ∷ []))
      ∙ ap (off_among false) (of_part_later _ j (opened_by (acts ++ d ∷ [])) later) in
      (rm_step p d.step d.answer (is_active acts) (is_active acts) (seen_now (is_active acts) j acts)
      (off_by (place_of j).bits j (opened_by acts)) next.tells h.reset).1 o
      ∙ sym (ap (λ (b : Bool). not b || off_by (place_of k).bits k (opened_by (acts ++ d ∷ [])))
      (active_push false acts d ∙ now_active) ∙ off)

  reset_after : Kind (is_active acts) (opened_by acts) d.step d.answer d.gave →
      (ported p d.step d.answer).mode.rm ≡ is_reset k (acts ++ d ∷ [])
  reset_after (quiet none o same) = reset_same o
  reset_after (starts was few config gave o same) = reset_new o same
  reset_after (credits was n gave o same) = reset_same o
  reset_after (sends was request gave o same) = reset_same o
  reset_after (stops was gave o same) = reset_same o

  commanded_after : (ported p d.step d.answer).abort ≡ true → IsCommanded (acts ++ d ∷ []) k
  commanded_after stands =
      let more = asked_more acts d in let s = before.asked in let t = after.asked in let bits =
      same_bits j k acts d e in
      elim (abort_step p d.step d.answer stands) [
        | inl was ↦
            let c = h.commanded was in
            let none : total is_send d.gave ≡ 0 = ap (total is_send) next.gave
            ∙ busy_sends_none p.version p (opened_by acts) d.step d.answer (is_active acts)
            (seen_now (is_active acts) j acts) next.fits next.tells
            (buffer.in_abort was) in
            let l = c.later in let b = c.by_then in record {
              early = c.early;
              command = c.command;
              late = c.late ++ d ∷ [];
              whole = ap (λ (l : List TypedAct). l ++ d ∷ []) c.whole ∙ append_assoc c.early (c.command ∷ c.late)
                  (d ∷ []);
              is_abort = c.is_abort;
              by_then = omega (arith, b, bits);
              later = omega (arith, l, more, s, t, none);
            }
        | inr asks ↦
            let none : total is_send d.gave ≡ 0 = ap (total is_send) next.gave
            ∙ ap (total is_send) (abort_gives_none p d.step d.answer asks) in
            let b = next.now in record {
              early = acts;
              command = d;
              late = [];
              whole = refl;
              is_abort = asks;
              by_then = omega (arith, b, bits);
              later = omega (arith, more, s, t, none);
            }
      ]

  activation_after : (ported p d.step d.answer).activation ≡ opened_by (acts ++ d ∷ [])
  activation_after =
      let a = h.activation in
      activation_step p d.step d.answer (λ one. let o = opened_from (is_active acts)
      (opened_by acts) d.step d.answer d.gave kind one in let few = o.1 in
      (was_reset o.0, omega (arith, few, a)))
      ∙ ap (λ (n : ℕ). n + opens_by d) a ∙ sym (opened_push acts d)

  pub ported_after : IsPorted version k (acts ++ d ∷ []) q
  ported_after =
      subst (λ (r : Registers). IsPorted version k (acts ++ d ∷ []) r) (sym next.left) (record {
        version_is = version_step p d.step d.answer ∙ h.version_is;
        set = set_after;
        reset = reset_after kind;
        activation = activation_after;
        unclosed = closed_step p d.step d.answer ∙ h.unclosed;
        commanded = commanded_after;
      })
