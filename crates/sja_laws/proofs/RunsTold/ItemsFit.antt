-- An item of a journal may come where it stands, by the cut of the record before it.
use Rattle.std.proofs.Common.{◌≡◌, ◌+◌, ℕ, Bool, true, false, not, Option, Some, None, List, [], ◌∷◌, ◌++◌, refl, sym}
use Rattle.std.proofs.Common.{ap, ◌∙◌, subst, append_assoc, append-nil}
use Rattle.std.specs.Prelude.{if◌then◌else◌}
use Rattle.can_node_rules.specs.declared.config.Config.{Config}
use Rattle.can_node_rules.specs.declared.request.Request.{Request}
use Rattle.can_node_rules.specs.Context.{is_held}
use Rattle.can_node_rules.specs.NextBit.{now_in}
use Rattle.can_node_rules.specs.BetweenBits.{IsBetweenBits}
use Rattle.can_node_rules.proofs.CutRecords.Fronts.{cut_front}
use Rattle.can_node_rules.proofs.CutRecords.Comings.{start_resets, send_away}
use Rattle.sja_journal.specs.NodeWords.{NodeEntry, NodeStarted, NodeStopped, NodeAsked, IsCut}
use Rattle.sja_journal.specs.declared.up.Up.{Up}
use Rattle.sja_journal.specs.declared.up.Up.TheVariants.{Start as StartItem, Credit, Send as SendItem, Stop as StopItem}
use Rattle.sja_journal.specs.declared.entry.Entry.{Entry}
use Rattle.sja_journal.specs.declared.entry.Entry.TheVariants.{Up as Item}
use Rattle.sja_journal.specs.Places.{place_of}
use Rattle.sja_journal.specs.Records.{told, record_of}
use Rattle.sja_journal.proofs.JournalEntries.Entering.{record_push}
use Rattle.sja_regs.specs.declared.registers.Registers.{Registers}
use Rattle.sja_link.specs.Orderly.{IsOrderly, AreOrderly}
use Rattle.sja_replay.specs.Taking.{TakesRequest, IsTaken, last_part}
use Rattle.sja_driver.specs.Asking.{IsAsked}
use Rattle.sja_driver.proofs.OneBit.BitAsked.{HasCut}
use Rattle.sja_laws.proofs.RunsTold.ToldBits.{split}
use Rattle.sja_journal.proofs.JournalEntries.EachInPart.{each_part}

pub cut_by : (j k : List Entry) (e : NodeEntry) → IsBetweenBits e → record_of k ≡ record_of j ++ e ∷ [] → HasCut k →
    HasCut j
cut_by j k e other is has =
    let P : List NodeEntry → Type 0 = λ l. IsCut l has.found in
    let front = cut_front (record_of j) e has.found other (subst P is has.cut) in
    record { found = front.0; cut = front.1 }

pub cut_same : (j k : List Entry) → record_of k ≡ record_of j → HasCut k → HasCut j
cut_same j k is has =
    let P : List NodeEntry → Type 0 = λ l. IsCut l has.found in record { found = has.found; cut = subst P is has.cut }

-- the record with it
pub cut_with : (j k : List Entry) (e : NodeEntry) → record_of k ≡ record_of j ++ e ∷ [] → (has : HasCut k) →
    IsCut (record_of j ++ e ∷ []) has.found
cut_with j k e is has = let P : List NodeEntry → Type 0 = λ l. IsCut l has.found in subst P is has.cut

pub cut_item : (j k : List Entry) (u : Up) → k ≡ j ++ Item u ∷ [] → HasCut k → HasCut j
cut_item j k u is has = by u (ap record_of is ∙ record_push j (Item u))
  where
    by : (v : Up) → record_of k ≡ record_of j ++ told (place_of j).off (Item v) → HasCut j
    by (StartItem config) e = cut_by j k (NodeStarted config) tt e has
    by (Credit n) e = cut_same j k (e ∙ append-nil (record_of j)) has
    by StopItem e = cut_by j k NodeStopped tt e has
    by (SendItem request) e = asked (place_of j).off e
      where
        asked : (off : Bool) → record_of k ≡ record_of j ++ (if off then [] else NodeAsked request ∷ []) → HasCut j
        asked true f = cut_same j k (f ∙ append-nil (record_of j)) has
        asked false f = cut_by j k (NodeAsked request) tt f has

none_asked : (tbs : Bool) (held : Option Request) → tbs ≡ true → tbs ≡ not (is_held held) → held ≡ None
none_asked tbs None free is = refl
none_asked tbs (Some request) free is = let no : true ≡ false = sym free ∙ is in absurd cc

-- an item may come there
pub takes_start : (j k : List Entry) (config : Config) → k ≡ j ++ Item (StartItem config) ∷ [] → HasCut j → HasCut k →
    IsTaken j (Item (StartItem config))
takes_start j k config is before after = record {
  found = before.found;
  cut = before.cut;
  takes = start_resets (record_of j) config before.found after.found before.cut
      (cut_with j k (NodeStarted config) (ap record_of is ∙ record_push j (Item (StartItem config))) after);
}

pub takes_credit : (whole : List Entry) → AreOrderly whole → (j k rest : List Entry) (n : ℕ) →
    k ≡ j ++ Item (Credit n) ∷ [] → whole ≡ k ++ rest → HasCut j →
    IsTaken j (Item (Credit n))
takes_credit whole orderly j k rest n is all before =
    let a = (place_of j).activation in
    let split : whole ≡ j ++ Item (Credit n) ∷ rest =
    all ∙ ap (λ l. l ++ rest) is ∙ append_assoc j (Item (Credit n) ∷ []) rest in
    let P : List Entry → Type 0 = λ l. AreOrderly l in
    let order : IsOrderly (last_part j) (Item (Credit n)) =
    each_part IsOrderly j rest (Item (Credit n)) a refl (subst P split orderly a) in record {
      found = before.found;
      cut = before.cut;
      takes = order.3;
    }

pub takes_send : (j k : List Entry) (p : Registers) (request : Request) → k ≡ j ++ Item (SendItem request) ∷ [] →
    IsAsked j p → p.tbs ≡ true → (place_of j).off ≡ false → HasCut j → HasCut k → IsTaken j (Item (SendItem request))
takes_send j k p request is asked free on before after =
    let P : Bool → Type 0 = λ off. TakesRequest off before.cut in
    let same = ap record_of is ∙ record_push j (Item (SendItem request))
    ∙ ap (λ off. record_of j ++ told off (Item (SendItem request))) on in record {
      found = before.found;
      cut = before.cut;
      takes = subst P (sym on) (
        send_away (record_of j) request before.found after.found before.cut (cut_with j k (NodeAsked request) same
            after),
        none_asked p.tbs (now_in before.cut).held free (asked before.found before.cut),
      );
    }

pub takes_stop : (j : List Entry) → HasCut j → IsTaken j (Item StopItem)
takes_stop j before = record { found = before.found; cut = before.cut; takes = tt }
