-- A port beside the journal of its node, along the steps and bits that have led to both: where the activation went
-- bus-off the port is in reset mode, and TBS is 0 exactly where the node holds a request.
use Rattle.std.proofs.Common.{◌≡◌, ℕ, ◌+◌, Bool, true, false, not, List, [], ◌∷◌}
use Rattle.std.proofs.Common.{◌++◌, refl, sym, ap, ◌∙◌, subst, arith, append-nil}
use Rattle.std.specs.Prelude.{◌||◌}
use Rattle.std.proofs.Math.Bool.{or-true}
use Rattle.can_node_rules.specs.declared.config.Config.{Config}
use Rattle.can_node_rules.specs.declared.request.Request.{Request}
use Rattle.can_node_rules.specs.Context.{is_held}
use Rattle.can_node_rules.specs.NextBit.{now_in}
use Rattle.can_node_rules.proofs.Requests.Cuts.{sent_holds, stopped_holds, started_holds, none_held_first}
use Rattle.sja_journal.specs.NodeWords.{NodeEntry, NodeStarted, NodeStopped, NodeAsked, FinishedPiece, IsCut}
use Rattle.sja_journal.specs.declared.up.Up.{Up}
use Rattle.sja_journal.specs.declared.up.Up.TheVariants.{Start as StartItem, Credit, Send as SendItem, Stop as StopItem}
use Rattle.sja_journal.specs.declared.entry.Entry.{Entry}
use Rattle.sja_journal.specs.declared.entry.Entry.TheVariants.{Up as Item}
use Rattle.lemmas.specs.Gathering.{total}
use Rattle.sja_journal.specs.Places.{JournalPlace, place_of, past}
use Rattle.sja_journal.specs.Records.{told, record_of}
use Rattle.sja_link.specs.World.{is_send}
use Rattle.sja_journal.proofs.JournalEntries.Entering.{place_push, record_push}
use Rattle.sja_journal.proofs.Ledger.Small.{not_true, not_false, neither}
use Rattle.sja_regs.specs.declared.registers.Registers.{Registers}
use Rattle.sja_regs.specs.Registers.{at_power_on}
use Rattle.sja_journal.specs.BitEntries.{entries_of_items}
use Rattle.sja_driver.specs.Carried.{Tells, carried, ported}
use Rattle.sja_driver.specs.TypedActs.{TypedAct, FitsState, Gives, opens_by, opened_by, active_after, is_active}
use Rattle.sja_driver.proofs.LogOfSteps.Sections.{active_push, opened_push}
use Rattle.sja_driver.proofs.Registers.Activation.{activation_step}
use Rattle.sja_driver.proofs.Registers.TbsAndAbort.{TbsIsRight, tbs_after_step}
use Rattle.sja_driver.proofs.Registers.TransmitBuffer.{tbs_by, tbs_step, busy_sends_none, reset_sends_none}
use Rattle.sja_driver.proofs.Step.Giving.{gives_carried}
use Rattle.sja_driver.proofs.Step.GivenKinds.{Kind, kind_of, opened_from}
use Rattle.sja_driver.proofs.Step.GivenKinds.Kind.{quiet, starts, credits, sends, stops}
use Rattle.sja_driver.proofs.Step.Modes.{rm_step}
use Rattle.sja_promises.specs.Registering.{seen_now}
use Rattle.sja_driver.specs.Asking.{IsAsked}
use Rattle.sja_driver.proofs.OneBit.BitAsked.{HasCut}

-- what holds of a port beside its node's journal and its driver's acts
pub record IsPort (j : List Entry) (acts : List TypedAct) (p : Registers) : Type 0 where
  pub inactive : is_active acts ≡ false → p.mode.rm ≡ true
  pub off : (place_of j).off ≡ true → p.mode.rm ≡ true
  pub activation : p.activation ≡ (place_of j).activation
  pub opened : (place_of j).activation ≡ opened_by acts
  pub buffer : TbsIsRight p

pub port_first : (version : ℕ) → IsPort [] [] (at_power_on version)
port_first version = record {
  inactive = λ e. refl;
  off = λ e. refl;
  activation = refl;
  opened = refl;
  buffer = record { in_reset = λ e. refl; in_abort = λ e. absurd cc };
}

pub asked_first : (version : ℕ) → IsAsked [] (at_power_on version)
asked_first version found cut = sym (ap not (none_held_first found cut))

-- ---- a step

-- what kind of a step it is
pub kind_by : (version : ℕ) (acts : List TypedAct) (d : TypedAct) (p : Registers) →
    FitsState version (is_active acts) (opened_by acts) d.step d.answer → d.gave ≡ carried p d.step d.answer →
    Kind (is_active acts) (opened_by acts) d.step d.answer d.gave
kind_by version acts d p fits gave =
    kind_of version (is_active acts) (opened_by acts) d.step d.answer d.gave fits
    (subst (λ (l : List Up). Gives d.step d.answer l) (sym gave) (gives_carried p d.step d.answer))

module _ (version : ℕ) (j k : List Entry) (acts : List TypedAct) (d : TypedAct) (p q : Registers) (h : IsPort j acts p)
    (fits : FitsState version (is_active acts) (opened_by acts) d.step d.answer)
    (tells : Tells d.step (is_active acts) p (seen_now (is_active acts) j acts) d.answer)
    (gave : d.gave ≡ carried p d.step d.answer) (whole : k ≡ j ++ entries_of_items d.gave)
    (left : q ≡ ported p d.step d.answer) where
  kind : Kind (is_active acts) (opened_by acts) d.step d.answer d.gave
  kind = kind_by version acts d p fits gave

  -- what was entered
  none_entered : d.gave ≡ [] → k ≡ j
  none_entered none = whole ∙ ap (λ (l : List Up). j ++ entries_of_items l) none ∙ append-nil j

  one_entered : (u : Up) → d.gave ≡ u ∷ [] → k ≡ j ++ Item u ∷ []
  one_entered u is = whole ∙ ap (λ (l : List Up). j ++ entries_of_items l) is

  rm_is : p.mode.rm ≡ (not (is_active acts) || p.mode.rm)
  rm_is = by (is_active acts) refl
    where
      by : (b : Bool) → is_active acts ≡ b → p.mode.rm ≡ (not b || p.mode.rm)
      by true e = refl
      by false e = h.inactive e

  modes : (opens_by d ≡ 0 → (ported p d.step d.answer).mode.rm
      ≡ (not (active_after (is_active acts) d.step d.answer) || p.mode.rm))
      × (opens_by d ≡ 1 → (ported p d.step d.answer).mode.rm ≡ false)
  modes = rm_step p d.step d.answer (is_active acts) (is_active acts) (seen_now (is_active acts) j acts) p.mode.rm
      tells rm_is

  active_now : is_active (acts ++ d ∷ []) ≡ active_after (is_active acts) d.step d.answer
  active_now = active_push false acts d

  activation_now : q.activation ≡ p.activation + opens_by d
  activation_now = ap (λ (r : Registers). r.activation) left ∙ activation_step p d.step d.answer (λ one.
      let from = opened_from (is_active acts) (opened_by acts) d.step d.answer d.gave kind one in
      let few = from.1 in let a = h.activation in let o = h.opened in
      (h.inactive from.0, omega (arith, few, a, o)))

  buffer_now : TbsIsRight q
  buffer_now = subst (λ (r : Registers). TbsIsRight r) (sym left)
      (tbs_after_step version p (opened_by acts) d.step d.answer (is_active acts)
      (seen_now (is_active acts) j acts) fits tells h.buffer)

  -- one that begins no activation
  port_same : opens_by d ≡ 0 → place_of k ≡ place_of j → IsPort k (acts ++ d ∷ []) q
  port_same o same =
      let rm : q.mode.rm ≡ (not (active_after (is_active acts) d.step d.answer) || p.mode.rm) =
      ap (λ (r : Registers). r.mode.rm) left ∙ modes.0 o in
      let now_active = activation_now in
      let was = h.activation in
      let begun = h.opened in
      let place = ap (λ (x : JournalPlace). x.activation) same in
      let more = opened_push acts d in record {
        inactive = λ e. rm ∙ ap (λ (b : Bool). not b || p.mode.rm) (sym active_now ∙ e);
        off = λ e. rm ∙ ap (λ (b : Bool). not (active_after (is_active acts) d.step d.answer) || b)
            (h.off (sym (ap (λ (x : JournalPlace). x.off) same) ∙ e))
            ∙ or-true (not (active_after (is_active acts) d.step d.answer));
        activation = omega (arith, now_active, was, place, o);
        opened = omega (arith, begun, place, more, o);
        buffer = buffer_now;
      }

  -- a start
  port_new : (config : Config) → d.gave ≡ StartItem config ∷ [] → opens_by d ≡ 1 →
      active_after (is_active acts) d.step d.answer ≡ true → IsPort k (acts ++ d ∷ []) q
  port_new config is o active =
      let place : place_of k ≡ past (place_of j) (Item (StartItem config)) =
      ap place_of (one_entered (StartItem config) is) ∙ place_push j (Item (StartItem config)) in
      let now_active = activation_now in
      let was = h.activation in
      let begun = h.opened in
      let now : (place_of k).activation ≡ (place_of j).activation + 1 = ap (λ (x : JournalPlace). x.activation) place in
      let more = opened_push acts d in record {
        inactive = λ e. let no : true ≡ false = sym active ∙ sym active_now ∙ e in absurd cc;
        off = λ e. let no : false ≡ true = sym (ap (λ (x : JournalPlace). x.off) place) ∙ e in absurd cc;
        activation = omega (arith, now_active, was, now, o);
        opened = omega (arith, begun, now, more, o);
        buffer = buffer_now;
      }

  place_same : (u : Up) → d.gave ≡ u ∷ [] → past (place_of j) (Item u) ≡ place_of j → place_of k ≡ place_of j
  place_same u is same = ap place_of (one_entered u is) ∙ place_push j (Item u) ∙ same

  pub port_step : IsPort k (acts ++ d ∷ []) q
  port_step = by kind
    where
      by : Kind (is_active acts) (opened_by acts) d.step d.answer d.gave → IsPort k (acts ++ d ∷ []) q
      by (quiet none o same) = port_same o (ap place_of (none_entered none))
      by (starts was few config is o same) = port_new config is o same
      by (credits was n is o same) = port_same o (place_same (Credit n) is refl)
      by (sends was request is o same) = port_same o (place_same (SendItem request) is refl)
      by (stops was is o same) = port_same o (place_same StopItem is refl)

  -- where a request was given the transmit buffer was released, and the activation hadn't gone bus-off
  pub was_free : (request : Request) → d.gave ≡ SendItem request ∷ [] →
      (p.tbs ≡ true) × ((place_of j).off ≡ false)
  was_free request is =
      let some : total is_send d.gave ≡ 1 = ap (total is_send) is in
      let same = ap (total is_send) gave in
      let on : p.mode.rm ≡ false = not_true p.mode.rm (λ e.
      let none = reset_sends_none version p (opened_by acts) d.step d.answer (is_active acts)
      (seen_now (is_active acts) j acts) fits tells e in omega (arith, some, same, none)) in (
        not_false p.tbs (λ e.
            let none = busy_sends_none version p (opened_by acts) d.step d.answer (is_active acts)
            (seen_now (is_active acts) j acts) fits tells e in omega (arith, some, same, none)),
        not_true (place_of j).off (λ off. neither p.mode.rm (h.off off) on),
      )

  -- ---- TBS, and what is held

  tbs_now : q.tbs ≡ tbs_by p.tbs d.gave
  tbs_now = ap (λ (r : Registers). r.tbs) left ∙ tbs_step p d.step d.answer ∙ ap (tbs_by p.tbs) (sym gave)

  abbrev HoldsBy : List NodeEntry → Bool → Type 0
  HoldsBy entries tbs = (found : List FinishedPiece) (cut : IsCut entries found) → tbs ≡ not (is_held (now_in cut).held)

  asked_as : (entries : List NodeEntry) (tbs : Bool) → record_of k ≡ entries → q.tbs ≡ tbs → HoldsBy entries tbs →
      IsAsked k q
  asked_as entries tbs e t holds =
      subst (λ (l : List NodeEntry). HoldsBy l q.tbs) (sym e)
      (subst (λ (b : Bool). HoldsBy entries b) (sym t) holds)

  record_one : (u : Up) → d.gave ≡ u ∷ [] → record_of k ≡ record_of j ++ told (place_of j).off (Item u)
  record_one u is = ap record_of (one_entered u is) ∙ record_push j (Item u)

  pub asked_step : IsAsked j p → HasCut j → IsAsked k q
  asked_step asked has = by kind
    where
      by : Kind (is_active acts) (opened_by acts) d.step d.answer d.gave → IsAsked k q
      by (quiet none o same) =
          asked_as (record_of j) p.tbs (ap record_of (none_entered none)) (tbs_now ∙ ap (tbs_by p.tbs) none) asked
      by (starts was few config is o same) =
          asked_as (record_of j ++ NodeStarted config ∷ []) p.tbs (record_one (StartItem config) is)
          (tbs_now ∙ ap (tbs_by p.tbs) is)
          (λ found cut. asked has.found has.cut
          ∙ ap not (sym (started_holds (record_of j) has.found found has.cut config cut)))
      by (credits was n is o same) =
          asked_as (record_of j) p.tbs (record_one (Credit n) is ∙ append-nil (record_of j))
          (tbs_now ∙ ap (tbs_by p.tbs) is) asked
      by (sends was request is o same) =
          asked_as (record_of j ++ NodeAsked request ∷ []) false
          (record_one (SendItem request) is
          ∙ ap (λ (b : Bool). record_of j ++ told b (Item (SendItem request))) (was_free request is).1)
          (tbs_now ∙ ap (tbs_by p.tbs) is)
          (λ found cut. ap not (sym (sent_holds (record_of j) has.found found has.cut request cut)))
      by (stops was is o same) =
          asked_as (record_of j ++ NodeStopped ∷ []) true (record_one StopItem is) (tbs_now ∙ ap (tbs_by p.tbs) is)
          (λ found cut. ap not (sym (stopped_holds (record_of j) has.found found has.cut cut)))

-- ---- a bit
