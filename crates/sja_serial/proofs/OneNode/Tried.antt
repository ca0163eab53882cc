-- A run in which the step of one node's driver was tried, and what it gave was taken: it was done, or it has to wait.
use Rattle.sja_steps.specs.declared.step_answer.StepAnswer.{StepAnswer}
use Rattle.std.proofs.Common.{◌≡◌, ℕ, zero, suc, ◌<◌, List, [], ◌∷◌, length, sym, ap}
use Rattle.std.proofs.Common.{refl, ◌∙◌, subst, append-nil, arith, inl, inr}
use Rattle.std.specs.Prelude.{slice_index_or, slice_set, Option, Some, None, IfSome}
use Rattle.std.proofs.lemmas.Bool.{cases_eq}
use Rattle.std.proofs.lemmas.List.{get_or_default, get_or-set_other, get_or-set_same, set-get_or}
use Rattle.sja_journal.specs.declared.entry.Entry.{Entry}
use Rattle.sja_link.specs.Deques.{Deques}
use Rattle.sja_journal.specs.Sizes.{most_activations}
use Rattle.sja_journal.specs.Places.{place_of}
use Rattle.sja_journal.proofs.JournalEntries.Entering.{bits_counted}
use Rattle.sja_bus_rules.specs.Buses.{BusValue}
use Rattle.sja_bus_rules.specs.Lawful.{IsBusRun}
use Rattle.sja_bus_rules.specs.Wire.{journal_at}
use Rattle.sja_steps.specs.declared.step.Step.{Step}
use Rattle.sja_regs.specs.declared.registers.Registers.{Registers}
use Rattle.sja_driver.specs.declared.logged_driver.LoggedDriver.{LoggedDriver}
use Rattle.sja_driver.specs.TypedActs.{TypedAct, acts_at}
use Rattle.sja_driver.specs.LoggedDrivers.{kept_of, log_of}
use Rattle.sja_promises.specs.Registering.{IsPortAct}
use Rattle.sja_promises.specs.Nodes.{IsNode}
use Rattle.sja_serial.specs.Serial.{Setup, SerialValue, StandsAt}
use Rattle.sja_journal.specs.BitEntries.{HasMore}
use Rattle.sja_serial.specs.Stepping.{DoesAct, DoesNothing}
use Rattle.sja_driver.specs.Shown.{ShowsRecord}
use Rattle.sja_promises.specs.Waiting.{HasToWait}
use Rattle.sja_promises.proofs.OneNode.Turned.{stepped, waited}
use Rattle.sja_serial.proofs.AllNodes.Several.{each_as}
use Rattle.sja_serial.proofs.OneNode.Standing.{Tries, run_tried, node_there, gathers, other_node, stands_after}

-- the step was done with this answer, or it has to wait
abbrev pub IsTried : Setup → SerialValue → SerialValue → ℕ → Step → List (List TypedAct) → Option StepAnswer → Type 0
IsTried setup was now node step acts answer =
    IfSome answer (λ given. DoesAct setup was now node step given acts)
    × (answer ≡ None → DoesNothing setup was now node step acts)

module _ {setup : Setup} {r : SerialValue} {acts : List (List TypedAct)} {node : ℕ}
    (h : StandsAt setup r acts) (there : node < setup.nodes)
    (laws : IsBusRun r.bus.script r.bus.run r.bus.journals)
    (few : length (acts_at acts node) < slice_index_or setup.steps node 0) where
  abbrev j : List Entry
  j = journal_at r.bus.journals node

  abbrev ds : List TypedAct
  ds = acts_at acts node

  inside : node < length r.bus.journals
  inside = let c = h.count.journals in omega (arith, c, there)

  pub place : (place_of j).bits ≡ r.bits
  place = bits_counted j ∙ laws.wired.count node inside ∙ sym h.bits

  module _ {was now : LoggedDriver} {p q : Registers} {old given : Deques} {bus : BusValue} {after : List Deques}
      {one : Step} {answer : Option StepAnswer} (t : Tries r node was now p q one answer old given bus after) where
    w : IsNode setup.version (slice_index_or setup.steps node 0) j ds was p old
    w = node_there h there t.was_is t.p_is t.old_is

    -- its links were made for all activations of this version
    starts : old.starts ≡ most_activations setup.version
    starts = ap (λ (s : Deques). s.starts) t.old_is ∙ h.starts node old there

    port : (x : Registers) → p ≡ slice_index_or r.ports node x
    port x = t.p_is ∙ get_or_default r.ports node p x (let c = h.count.ports in omega (arith, c, there))

    port_now : (x : Registers) → q ≡ slice_index_or (slice_set r.ports node q) node x
    port_now x = sym (get_or-set_same r.ports node q x (let c = h.count.ports in omega (arith, c, there)))

    more_items : (m : ℕ) → m < setup.nodes → HasMore (journal_at r.bus.journals m) (journal_at bus.journals m)
    more_items m less = let its = t.items m (let c = h.count.journals in omega (arith, c, less)) in
        record { items = its.items; whole = its.whole }

    -- what drivers have as done, and their kept bytes, stay
    logs_stay : (m : ℕ) (d : LoggedDriver) → m < setup.nodes →
        (log_of (slice_index_or (slice_set r.drivers node now) m d)).done ≡ (log_of (slice_index_or r.drivers m d)).done
    logs_stay m d less = each_as (λ (x : LoggedDriver). (log_of x).done) r.drivers node now was m d
        (let c = h.count.drivers in omega (arith, c, there)) (t.stays.done ∙ ap (λ x. (log_of x).done) t.was_is)

    kept_stays : (m : ℕ) (d : LoggedDriver) → m < setup.nodes →
        kept_of (slice_index_or (slice_set r.drivers node now) m d) ≡ kept_of (slice_index_or r.drivers m d)
    kept_stays m d less = each_as kept_of r.drivers node now was m d
        (let c = h.count.drivers in omega (arith, c, there)) (t.stays.kept ∙ ap kept_of t.was_is)

  -- the step was done
  next_done : {was now : LoggedDriver} {p q : Registers} {old given : Deques} {bus : BusValue} {after : List Deques}
      {one : Step} {answer : StepAnswer} → Tries r node was now p q one (Some answer) old given bus after →
      DoesAct setup r (run_tried r node now q bus after) node one answer acts
  next_done {was} {now} {p} {q} {old} {bus = bus} {after} {one} {answer} t =
      let s = stepped now (w t) t.stays.lawful (gathers h there t) (laws.lawful node inside) answer few t.steps
      t.stays.room in let d = s.act in record {
        act = d;
        does = record {
          stands = stands_after h there t (d ∷ []) s.node s.shows;
          at_once = λ i e less. only d i e (s.port.now ∙ place) less;
          bits = refl;
          items = more_items t;
        };
        step_is = s.step_is;
        answer_is = s.answer_is;
        port = λ x. subst (λ (a : Registers). IsPortAct a (slice_index_or (slice_set r.ports node q) node x) j
            (journal_at bus.journals node) ds d) (port t x)
            (subst (λ (b : Registers). IsPortAct p b j (journal_at bus.journals node) ds d) (port_now t x) s.port);
        fits = s.fits;
        sees = s.sees;
        others = λ m less differ. (other_node h there t m was p old differ less).0;
        ports = λ m x differ. get_or-set_other r.ports node m q x differ;
        logs = logs_stay t;
        kept = kept_stays t;
      }
    where
      only : (x : TypedAct) (i : ℕ) (d : TypedAct) → x.bits ≡ r.bits → i < 1 →
          (slice_index_or (x ∷ []) i d).bits ≡ r.bits
      only x zero d e less = e
      only x (suc i) d e less = absurd (omega (arith, less))

  -- the step has to wait
  next_waits : {was now : LoggedDriver} {p q : Registers} {old given : Deques} {bus : BusValue} {after : List Deques}
      {one : Step} →
      Tries r node was now p q one None old given bus after →
      DoesNothing setup r (run_tried r node now q bus after) node one acts
  next_waits {was} {now} {p} {q} {old} {bus = bus} {after} {one} t =
      let s = waited now (w t) t.stays.lawful (gathers h there t) (laws.lawful node inside) t.steps
      (t.stays.waits refl) (starts t) in let k = journal_at bus.journals node in
      let ports_stay : slice_set r.ports node q ≡ r.ports =
      ap (slice_set r.ports node) (s.port ∙ t.p_is) ∙ set-get_or r.ports node p in record {
        does = record {
          stands = stands_after h there t [] (subst (λ (l : List TypedAct). IsNode setup.version
              (slice_index_or setup.steps node 0) k l now q (slice_index_or after node old)) (sym (append-nil ds))
              s.node) (λ same shown. subst (ShowsRecord k) (sym s.port)
              (subst (λ (l : List Entry). ShowsRecord l p) (sym same) shown));
          at_once = λ i d less. absurd (omega (arith, less));
          bits = refl;
          items = more_items t;
        };
        why = λ g. subst (λ (r : Registers). HasToWait r k ds one)
            (port t g ∙ ap (λ (l : List Registers). slice_index_or l node g) (sym ports_stay))
            (subst (λ (l : List Entry). HasToWait p l ds one) (sym s.journal) s.waits);
        ports = ports_stay;
        journals = λ m less. elim (cases_eq node m) [
          | inl e ↦ subst (λ (x : ℕ). journal_at bus.journals x ≡ journal_at r.bus.journals x) e s.journal
          | inr differ ↦ (other_node h there t m was p old (λ e. differ (sym e)) less).0
        ];
        logs = logs_stay t;
        kept = kept_stays t;
      }

  -- either of both
  pub next_tried : {was now : LoggedDriver} {p q : Registers} {old given : Deques} {bus : BusValue}
      {after : List Deques} {one : Step} (answer : Option StepAnswer) →
      Tries r node was now p q one answer old given bus after →
      IsTried setup r (run_tried r node now q bus after) node one acts answer
  next_tried (Some answer) t = (next_done t, λ e. absurd cc)
  next_tried None t = (tt, λ e. next_waits t)
