-- Along the steps and bits that have led to a journal each of its bits is told.
use Rattle.std.proofs.Common.{◌≡◌, ◌≢◌, ◌<◌, ◌+◌, ◌^◌, ℕ, Bool, true, false, List, [], ◌∷◌, ◌++◌, length, length-append}
use Rattle.std.proofs.Common.{refl, sym, ap, ◌∙◌, subst, arith, append_assoc, append-nil}
use Rattle.can_node_rules.specs.declared.abort_outcome.AbortOutcome.TheVariants.{Unchanged}
use Rattle.lemmas.specs.Picking.{EachAfter}
use Rattle.lemmas.proofs.Picking.{each_front}
use Rattle.sja_journal.specs.NodeWords.{NodeAborted, FinishedPiece, received, IsCut}
use Rattle.sja_journal.specs.declared.up.Up.{Up}
use Rattle.sja_journal.specs.declared.up.Up.TheVariants.{Start as StartItem, Credit, Send as SendItem, Stop as StopItem}
use Rattle.sja_journal.specs.declared.entry.Entry.{Entry}
use Rattle.sja_journal.specs.declared.entry.Entry.TheVariants.{Bit, Up as Item, Abort}
use Rattle.sja_journal.specs.Places.{place_of}
use Rattle.sja_journal.specs.Records.{record_of}
use Rattle.sja_journal.specs.Verdicts.{HasVerdicts}
use Rattle.sja_journal.proofs.JournalEntries.Entering.{record_push}
use Rattle.sja_regs.specs.declared.registers.Registers.{Registers}
use Rattle.sja_journal.specs.Aborting.{abort_in, IsApplied}
use Rattle.sja_journal.specs.BitEntries.{abort_as, entries_of_items}
use Rattle.sja_link.specs.Orderly.{AreOrderly}
use Rattle.sja_driver.specs.TypedActs.{TypedAct, FitsState, opened_by, is_active}
use Rattle.sja_driver.proofs.Step.GivenKinds.{Kind}
use Rattle.sja_driver.proofs.Step.GivenKinds.Kind.{quiet, starts, credits, sends, stops}
use Rattle.sja_promises.specs.Registering.{IsPortBit, LeadTo}
use Rattle.sja_promises.specs.Registering.LeadTo.{power_on, act, bit}
use Rattle.sja_replay.specs.declared.bit_event.BitEvent.{BitEvent}
use Rattle.sja_replay.specs.Happened.{Happened}
use Rattle.sja_replay.specs.Happened.Happened.{over}
use Rattle.sja_replay.specs.Taking.{IsTaken}
use Rattle.sja_driver.specs.Asking.{IsAsked}
use Rattle.sja_driver.proofs.OneBit.BitAsked.{HasCut, place_bit}
use Rattle.sja_promises.proofs.OneNode.Registers.{IsPort, port_first, asked_first, kind_by, port_step, was_free}
use Rattle.sja_promises.proofs.OneNode.Registers.{asked_step}
use Rattle.sja_promises.proofs.OneNode.RegistersInBits.{port_bit, asked_bit}
use Rattle.sja_replay.specs.Quiet.{IsQuiet}
use Rattle.sja_laws.proofs.RunsTold.ToldBits.{behind, split, past_bit, with_more}
use Rattle.sja_journal.proofs.Growing.Aborts.{abort_changes}
use Rattle.sja_replay.specs.Stored.{AllStored}
use Rattle.sja_laws.proofs.Listed.Stores.{stored_none, stored_bit}
use Rattle.sja_laws.proofs.Listed.FrontsPassed.{none_more, Passes, Leads, passes_item, leads_item, passes_abort}
use Rattle.sja_laws.proofs.Listed.FrontsPassed.{leads_abort}
use Rattle.sja_laws.proofs.RunsTold.ItemsFit.{cut_by, cut_same, cut_item, takes_start, takes_credit, takes_send}
use Rattle.sja_laws.proofs.RunsTold.ItemsFit.{takes_stop}

abbrev pub Fits : ℕ → List TypedAct → TypedAct → Type 0
Fits version before d = FitsState version (is_active before) (opened_by before) d.step d.answer

-- ---- a journal that is a front of a whole one

module _ (whole : List Entry) (others : List FinishedPiece) (cut : IsCut (record_of whole) others)
    (verdicts : HasVerdicts whole (received others)) (orderly : AreOrderly whole)
    (few : (place_of whole).bits < 2 ^ 32) where
  pub record Come (j rest : List Entry) (acts : List TypedAct) (p : Registers) : Type 0 where
    pub port : IsPort j acts p
    pub asked : IsAsked j p
    pub passes : Passes whole j rest
    pub leads : Leads whole j rest

  -- ---- a bit

  module _ (j k rest : List Entry) (p q : Registers) (b : IsPortBit p q j k) (all : whole ≡ k ++ rest)
      (quiet_rest : IsQuiet rest) where
    abbrev opened : List Entry
    opened = j ++ abort_as b.changed

    -- what stands behind the journal as the bit began
    abbrev left_then : List Entry
    left_then = Bit b.driven b.seen ∷ behind whole others cut verdicts few b.changed opened k rest b.driven b.seen b.bit
        b.turn b.is_turn all quiet_rest

    split_then : whole ≡ j ++ (abort_as b.changed ++ left_then)
    split_then = split whole others cut verdicts few b.changed opened k rest b.driven b.seen b.bit b.turn b.is_turn all
        quiet_rest ∙ append_assoc j (abort_as b.changed) left_then

    quiet_then : IsQuiet (abort_as b.changed ++ left_then)
    quiet_then = by b.changed
      where
        by : (changed : Bool) → IsQuiet (abort_as changed ++ left_then)
        by true = tt
        by false = tt

    cut_then : HasCut opened
    cut_then = record { found = b.is_turn.found; cut = b.is_turn.cut }

    cut_before : HasCut j
    cut_before = by b.changed cut_then
      where
        by : (changed : Bool) → HasCut (j ++ abort_as changed) → HasCut j
        by true has = cut_by j (j ++ Abort ∷ []) NodeAborted tt (record_push j Abort) has
        by false has = cut_same j (j ++ []) (ap record_of (append-nil j)) has

    abort_taken : b.changed ≡ true → IsTaken j Abort
    abort_taken changed = record {
      found = cut_before.found;
      cut = cut_before.cut;
      takes = by p.abort refl;
    }
      where
        by : (stands : Bool) → p.abort ≡ stands → abort_in cut_before.cut ≢ Unchanged
        by true e =
            let P : Bool → Type 0 = λ c. IsApplied j c in
            abort_changes j cut_before.found cut_before.cut (subst P changed (b.applied e))
        by false e = let no : true ≡ false = sym changed ∙ b.unasked e in absurd cc

    passes_bit : Passes whole j (abort_as b.changed ++ left_then) → Passes whole k rest
    passes_bit h hs x =
        let a = passes_abort whole j left_then b.changed abort_taken h hs x in
        let on = past_bit whole others cut verdicts few b.changed opened k rest b.driven b.seen b.bit b.turn b.is_turn
        all quiet_rest a.more a.later in
        let n = a.count in
        let m = length-append a.done (on.0 ∷ []) in
        let o = (place_bit opened k b.driven b.seen b.bit).1 in record {
          done = a.done ++ on.0 ∷ [];
          more = on.1;
          parts = a.parts ∙ ap (λ l. a.done ++ l) on.2 ∙ sym (append_assoc a.done (on.0 ∷ []) on.1);
          count = omega (arith, n, m, o);
          stored = stored_bit opened k b.driven b.seen b.bit a.done on.0 a.count on.3 a.stored;
          later = on.4;
        }

    leads_bit : Leads whole j (abort_as b.changed ++ left_then) → Leads whole k rest
    leads_bit h more x =
        let on = with_more whole others cut verdicts few b.changed opened k rest b.driven b.seen b.bit b.turn b.is_turn
        all quiet_rest more x in leads_abort whole j left_then b.changed abort_taken h on.0 on.1

  -- ---- the whole

  come : (version : ℕ) (j rest : List Entry) (acts : List TypedAct) (p : Registers) → LeadTo version j acts p →
      EachAfter (Fits version) [] acts →
      HasCut j → whole ≡ j ++ rest → IsQuiet rest → Come j rest acts p
  come version j rest acts p power_on fits has all q = record {
    port = port_first version;
    asked = asked_first version;
    passes = λ hs x.
        let P : List Entry → Type 0 = λ l. Happened [] l hs in
        record { done = []; more = hs; parts = refl; count = refl; stored = stored_none; later = subst P all x };
    leads = λ more x. let P : List Entry → Type 0 = λ l. Happened [] l more in (more, subst P (sym all) x);
  }
  come version k rest acts q (bit j _ _ p _ lead b) fits has all quiet_rest =
      let h = come version j (abort_as b.changed ++ left_then j k rest p q b all quiet_rest) acts p lead fits
      (cut_before j k rest p q b all quiet_rest) (split_then j k rest p q b all quiet_rest)
      (quiet_then j k rest p q b all quiet_rest) in record {
        port = port_bit j k acts p q h.port b;
        asked = asked_bit j k acts p q h.port b h.asked (cut_before j k rest p q b all quiet_rest);
        passes = passes_bit j k rest p q b all quiet_rest h.passes;
        leads = leads_bit j k rest p q b all quiet_rest h.leads;
      }
  come version k rest acts q (act j _ before d p _ lead is_act) fits has all quiet_rest =
      let each = each_front (Fits version) [] before d fits in
      by (λ more cut_j split_j quiet_j. come version j more before p lead each.0 cut_j split_j quiet_j) each.1
      (kind_by version before d p each.1 is_act.gave)
    where
      one : (u : Up) → d.gave ≡ u ∷ [] → k ≡ j ++ Item u ∷ []
      one u is = is_act.taken ∙ ap (λ (l : List Up). j ++ entries_of_items l) is

      -- after what came before it, and what it leaves of a list of bit events
      after : (more : List Entry) → HasCut j → Come j more before p → Fits version before d → Passes whole k rest →
          Leads whole k rest → Come k rest (before ++ d ∷ []) q
      after more cut_j h fit passes leads = record {
        port = port_step version j k before d p q h.port fit is_act.tells is_act.gave is_act.taken is_act.left;
        asked = asked_step version j k before d p q h.port fit is_act.tells is_act.gave is_act.taken is_act.left
            h.asked cut_j;
        passes = passes;
        leads = leads;
      }

      item : (u : Up) → d.gave ≡ u ∷ [] → ((more : List Entry) → HasCut j → whole ≡ j ++ more → IsQuiet more →
          Come j more before p) → Fits version before d →
          (HasCut j → Come j (Item u ∷ rest) before p → IsTaken j (Item u)) → Come k rest (before ++ d ∷ []) q
      item u is came fit taken =
          let cut_j = cut_item j k u (one u is) has in
          let h = came (Item u ∷ rest) cut_j
          (all ∙ ap (λ l. l ++ rest) (one u is) ∙ append_assoc j (Item u ∷ []) rest) tt in
          after (Item u ∷ rest) cut_j h fit (passes_item whole j k rest u (one u is) (taken cut_j h) h.passes)
          (leads_item whole j k rest u (one u is) (taken cut_j h) h.leads)

      by : ((more : List Entry) → HasCut j → whole ≡ j ++ more → IsQuiet more → Come j more before p) →
          Fits version before d → Kind (is_active before) (opened_by before) d.step d.answer d.gave →
          Come k rest (before ++ d ∷ []) q
      by came fit (quiet none o same) =
          let is : k ≡ j = is_act.taken ∙ ap (λ (l : List Up). j ++ entries_of_items l) none ∙ append-nil j in
          let P : List Entry → Type 0 = λ l. HasCut l in
          let R : List Entry → Type 0 = λ l. Passes whole l rest in
          let S : List Entry → Type 0 = λ l. Leads whole l rest in
          let cut_j = subst P is has in
          let h = came rest cut_j (all ∙ ap (λ l. l ++ rest) is) quiet_rest in
          after rest cut_j h fit (subst R (sym is) h.passes) (subst S (sym is) h.leads)
      by came fit (starts was open_more config is o same) =
          item (StartItem config) is came fit
          (λ cut_j h. takes_start j k config (one (StartItem config) is) cut_j has)
      by came fit (credits was n is o same) =
          item (Credit n) is came fit (λ cut_j h. takes_credit whole orderly j k rest n (one (Credit n) is) all cut_j)
      by came fit (sends was request is o same) =
          item (SendItem request) is came fit (λ cut_j h.
          let free = was_free version j k before d p q h.port fit is_act.tells is_act.gave is_act.taken
          is_act.left request is in
          takes_send j k p request (one (SendItem request) is) h.asked free.0 free.1 cut_j has)
      by came fit (stops was is o same) = item StopItem is came fit (λ cut_j h. takes_stop j cut_j)

  -- it has bit events
  pub some_told : (version : ℕ) (acts : List TypedAct) (p : Registers) → LeadTo version whole acts p →
      EachAfter (Fits version) [] acts → (hs : List BitEvent) × Happened [] whole hs
  some_told version acts p lead fits =
      (come version whole [] acts p lead fits (record { found = others; cut = cut }) (sym (append-nil whole))
      tt).leads [] over

  -- all bits are told, and each message that was stored
  pub all_told : (version : ℕ) (acts : List TypedAct) (p : Registers) → LeadTo version whole acts p →
      EachAfter (Fits version) [] acts → (hs : List BitEvent) → Happened [] whole hs →
      (length hs ≡ (place_of whole).bits) × AllStored whole hs
  all_told version acts p lead fits hs x =
      let h = come version whole [] acts p lead fits (record { found = others; cut = cut })
      (sym (append-nil whole)) tt in
      let a = h.passes hs x in
      let same : a.done ≡ hs = sym (a.parts ∙ ap (λ l. a.done ++ l) (none_more whole a.more a.later)
      ∙ append-nil a.done) in
      let P : List BitEvent → Type 0 = λ l. (length l ≡ (place_of whole).bits) × AllStored whole l in
      subst P same (a.count, a.stored)
