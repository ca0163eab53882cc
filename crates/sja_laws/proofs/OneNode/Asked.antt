-- Registers that entries and acts have led to: TBS is 0 exactly where the node holds a request.
use Rattle.std.proofs.Common.{◌≡◌, ℕ, Bool, true, false, List, [], ◌∷◌, ◌++◌, ap, ◌∙◌, subst, append-nil}
use Rattle.std.specs.Prelude.{if◌then◌else◌}
use Rattle.can_node_rules.specs.BetweenBits.{IsBetweenBits}
use Rattle.can_node_rules.proofs.CutRecords.Fronts.{cut_front}
use Rattle.lemmas.specs.Picking.{EachAfter}
use Rattle.lemmas.proofs.Picking.{each_front}
use Rattle.sja_journal.specs.NodeWords.{NodeEntry, NodeStarted, NodeStopped, NodeAsked, IsCut}
use Rattle.sja_journal.specs.declared.up.Up.{Up}
use Rattle.sja_journal.specs.declared.up.Up.TheVariants.{Start as StartItem, Credit, Send as SendItem, Stop as StopItem}
use Rattle.sja_journal.specs.declared.entry.Entry.{Entry}
use Rattle.sja_journal.specs.declared.entry.Entry.TheVariants.{Up as Item}
use Rattle.sja_journal.specs.BitEntries.{entries_of_items}
use Rattle.sja_journal.specs.Places.{place_of}
use Rattle.sja_journal.specs.Records.{told, record_of}
use Rattle.sja_journal.proofs.JournalEntries.Entering.{record_push}
use Rattle.sja_regs.specs.declared.registers.Registers.{Registers}
use Rattle.sja_driver.specs.Asking.{IsAsked}
use Rattle.sja_driver.specs.TypedActs.{TypedAct, is_active, opened_by}
use Rattle.sja_driver.proofs.OneBit.BitAsked.{HasCut}
use Rattle.sja_driver.proofs.Step.GivenKinds.{Kind}
use Rattle.sja_driver.proofs.Step.GivenKinds.Kind.{quiet, starts, credits, sends, stops}
use Rattle.sja_promises.specs.Registering.{LeadTo}
use Rattle.sja_promises.specs.Registering.LeadTo.{power_on, act, bit}
use Rattle.sja_promises.proofs.OneNode.Registers.{IsPort, port_first, asked_first, kind_by, port_step, asked_step}
use Rattle.sja_promises.proofs.OneNode.RegistersInBits.{port_bit, asked_bit}
use Rattle.sja_laws.specs.Promised.{IsPromised}
use Rattle.sja_laws.proofs.OneNode.OneBit.{cut_before}

-- ---- a front of a journal has a cut too

cut_by : (j k : List Entry) (e : NodeEntry) → IsBetweenBits e → record_of k ≡ record_of j ++ e ∷ [] → HasCut k →
    HasCut j
cut_by j k e other is has =
    let P : List NodeEntry → Type 0 = λ l. IsCut l has.found in
    let front = cut_front (record_of j) e has.found other (subst P is has.cut) in
    record { found = front.0; cut = front.1 }

cut_same : (j k : List Entry) → record_of k ≡ record_of j → HasCut k → HasCut j
cut_same j k is has =
    let P : List NodeEntry → Type 0 = λ l. IsCut l has.found in record { found = has.found; cut = subst P is has.cut }

cut_item : (j k : List Entry) (u : Up) → k ≡ j ++ Item u ∷ [] → HasCut k → HasCut j
cut_item j k u is has = by u (ap record_of is ∙ record_push j (Item u))
  where
    by : (v : Up) → record_of k ≡ record_of j ++ told (place_of j).off (Item v) → HasCut j
    by (StartItem config) e = cut_by j k (NodeStarted config) tt e has
    by (Credit n) e = cut_same j k (e ∙ append-nil (record_of j)) has
    by StopItem e = cut_by j k NodeStopped tt e has
    by (SendItem request) e = asked (place_of j).off e
      where
        asked : (off : Bool) → record_of k ≡ record_of j ++ (if off then [] else NodeAsked request ∷ []) → HasCut j
        asked true f = cut_same j k (f ∙ append-nil (record_of j)) has
        asked false f = cut_by j k (NodeAsked request) tt f has

-- ---- along entries and acts

pub asked_by : (version : ℕ) (seen j : List Entry) (acts : List TypedAct) (p : Registers) → LeadTo version j acts p →
    EachAfter (IsPromised version seen) [] acts → HasCut j → IsPort j acts p × IsAsked j p
asked_by version seen j acts p power_on promised has = (port_first version, asked_first version)
asked_by version seen k acts q (bit j _ _ p _ led b) promised has =
    let cut = cut_before j b.changed (record { found = b.is_turn.found; cut = b.is_turn.cut }) in
    let h = asked_by version seen j acts p led promised cut in
    (port_bit j k acts p q h.0 b, asked_bit j k acts p q h.0 b h.1 cut)
asked_by version seen k acts q (act j _ before d p _ led is) promised has =
    let each = each_front (IsPromised version seen) [] before d promised in
    let fits = each.1.fits in
    let cut = back (kind_by version before d p fits is.gave) in
    let h = asked_by version seen j before p led each.0 cut in (
      port_step version j k before d p q h.0 fits is.tells is.gave is.taken is.left,
      asked_step version j k before d p q h.0 fits is.tells is.gave is.taken is.left h.1 cut,
    )
  where
    one : (u : Up) → d.gave ≡ u ∷ [] → k ≡ j ++ Item u ∷ []
    one u given = is.taken ∙ ap (λ (l : List Up). j ++ entries_of_items l) given

    back : Kind (is_active before) (opened_by before) d.step d.answer d.gave → HasCut j
    back (quiet none o same) =
        let e : k ≡ j = is.taken ∙ ap (λ (l : List Up). j ++ entries_of_items l) none ∙ append-nil j in
        cut_same j k (ap record_of e) has
    back (starts was few config given o same) = cut_item j k (StartItem config) (one (StartItem config) given) has
    back (credits was n given o same) = cut_item j k (Credit n) (one (Credit n) given) has
    back (sends was request given o same) = cut_item j k (SendItem request) (one (SendItem request) given) has
    back (stops was given o same) = cut_item j k StopItem (one StopItem given) has
