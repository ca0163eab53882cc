-- That all was taken which the links showed right before a bit.
use Rattle.std.proofs.Common.{◌≡◌, ℕ, suc, ◌+◌, ◌<◌, Bool, true, false, Option, None, Some, List, [], ◌∷◌, ◌++◌}
use Rattle.std.proofs.Common.{length, take, drop, refl, sym, ap, ◌∙◌, subst, append_assoc, append-nil, arith, inl, inr}
use Rattle.std.specs.Prelude.{slice_index_or}
use Rattle.std.proofs.lemmas.Bool.{cases_eq}
use Rattle.can_levels.specs.declared.level.Level.{Level}
use Rattle.sja_link.specs.declared.bus_end.BusEnd.{Ghosts as Ends}
use Rattle.sja_journal.specs.declared.up.Up.{Up}
use Rattle.sja_journal.specs.declared.verdict.Verdict.{Verdict}
use Rattle.sja_journal.specs.declared.verdict.Verdict.TheVariants.{Stored as ToStore, Overrun as ToLose}
use Rattle.sja_journal.specs.declared.entry.Entry.{Entry}
use Rattle.sja_journal.specs.declared.entry.Entry.TheVariants.{Bit, Up as Item, Abort, Stored, Overrun, Off}
use Rattle.sja_journal.specs.Accounts.{account}
use Rattle.lemmas.specs.Gathering.{gathered}
use Rattle.sja_journal.specs.Parts.{part}
use Rattle.sja_journal.specs.Places.{past, place_of}
use Rattle.sja_journal.specs.Carried.{taken_in, taken_of, put_in, put_of}
use Rattle.lemmas.proofs.Gathered.{gathered_push, total_push}
use Rattle.sja_journal.proofs.JournalEntries.Entering.{part_here, part_else}
use Rattle.sja_regs.specs.declared.orders.Orders.{Orders}
use Rattle.sja_regs.specs.declared.bus_turn.BusTurn.{BusTurn}
use Rattle.sja_bus.specs.declared.struck_nodes.StruckNodes.{StruckNodes}
use Rattle.sja_bus.specs.declared.bus_node.BusNode.{BusNode}
use Rattle.sja_bus_rules.specs.Wire.{journal_at}
use Rattle.sja_journal.specs.Links.{Kept, stops_in, stops_of}
use Rattle.sja_bus_rules.specs.Opens.{Opens}
use Rattle.sja_journal.specs.BitEntries.{HasBit, judged_as, off_as, abort_as, entries_of_items}
use Rattle.sja_bus.specs.TakingAll.{HasTaken, TakesAll}
use Rattle.sja_bus.specs.Inside.Rows.{AreReady, EachBusNode, BusNodeOpens, BusNodeTurns, GoesAll, AllRead, journals_of}
use Rattle.sja_bus.specs.Inside.RowTakes.{RowTakesAll}
use Rattle.sja_bus.proofs.AllNodes.Journals.{all_dry}
use Rattle.sja_bus.proofs.AllNodes.Running.{journal_is, count_is}
use Rattle.sja_bus.proofs.Links.WrittenBack.{are_back}

-- ---- what one bit and what opens it leaves as it is

-- an entry that gathers nothing changes nothing that is gathered from a part
none_gathered : {B : Type 0} (f : Entry → List B) (j : List Entry) (e : Entry) (a : ℕ) → f e ≡ [] →
    gathered f (part (j ++ e ∷ []) a) ≡ gathered f (part j a)
none_gathered f j e a none = elim (cases_eq (past (place_of j) e).activation a) [
  | inl q ↦
      ap (gathered f) (part_here j e a q) ∙ gathered_push f (part j a) e
      ∙ ap (λ l. gathered f (part j a) ++ l) none ∙ append-nil (gathered f (part j a))
  | inr ne ↦ ap (gathered f) (part_else j e a ne)
]

taken_judged : (v : Option (Verdict × List ℕ)) (l : List Entry) (a : ℕ) →
    taken_of (part (l ++ judged_as v) a) ≡ taken_of (part l a)
taken_judged None l a = ap (λ (m : List Entry). taken_of (part m a)) (append-nil l)
taken_judged (Some (ToStore, m)) l a = none_gathered taken_in l (Stored m) a refl
taken_judged (Some (ToLose, m)) l a = none_gathered taken_in l (Overrun m) a refl

taken_off : (off : Bool) (l : List Entry) (a : ℕ) → taken_of (part (l ++ off_as off) a) ≡ taken_of (part l a)
taken_off true l a = none_gathered taken_in l Off a refl
taken_off false l a = ap (λ (m : List Entry). taken_of (part m a)) (append-nil l)

-- with a bit nothing is taken
pub taken_in_bit : (j k : List Entry) (x seen : Level) (a : ℕ) → HasBit j x seen k →
    taken_of (part k a) ≡ taken_of (part j a)
taken_in_bit j k x seen a h =
    ap (λ (l : List Entry). taken_of (part l a)) h.whole
    ∙ taken_off h.off ((j ++ Bit x seen ∷ []) ++ judged_as h.verdict) a
    ∙ taken_judged h.verdict (j ++ Bit x seen ∷ []) a ∙ none_gathered taken_in j (Bit x seen) a refl

-- nor is an activation stopped
no_stop_in : (j : List Entry) (e : Entry) → stops_in e ≡ 0 → stops_of (j ++ e ∷ []) ≡ stops_of j
no_stop_in j e none = let t = total_push stops_in j e in omega (arith, t, none)

stops_judged : (v : Option (Verdict × List ℕ)) (l : List Entry) → stops_of (l ++ judged_as v) ≡ stops_of l
stops_judged None l = ap stops_of (append-nil l)
stops_judged (Some (ToStore, m)) l = no_stop_in l (Stored m) refl
stops_judged (Some (ToLose, m)) l = no_stop_in l (Overrun m) refl

stops_off : (off : Bool) (l : List Entry) → stops_of (l ++ off_as off) ≡ stops_of l
stops_off true l = no_stop_in l Off refl
stops_off false l = ap stops_of (append-nil l)

pub stops_in_bit : (j k : List Entry) (x seen : Level) → HasBit j x seen k → stops_of k ≡ stops_of j
stops_in_bit j k x seen h =
    ap stops_of h.whole ∙ stops_off h.off ((j ++ Bit x seen ∷ []) ++ judged_as h.verdict)
    ∙ stops_judged h.verdict (j ++ Bit x seen ∷ []) ∙ no_stop_in j (Bit x seen) refl

-- with items that are taken and an abort nothing is put
put_items : (items : List Up) (j : List Entry) (a : ℕ) →
    put_of (part (j ++ entries_of_items items) a) ≡ put_of (part j a)
put_items [] j a = ap (λ (l : List Entry). put_of (part l a)) (append-nil j)
put_items (u ∷ items) j a =
    ap (λ (l : List Entry). put_of (part l a)) (sym (append_assoc j (Item u ∷ []) (entries_of_items items)))
    ∙ put_items items (j ++ Item u ∷ []) a ∙ none_gathered put_in j (Item u) a refl

put_abort : (changed : Bool) (j : List Entry) (a : ℕ) → put_of (part (j ++ abort_as changed) a) ≡ put_of (part j a)
put_abort true j a = none_gathered put_in j Abort a refl
put_abort false j a = ap (λ (l : List Entry). put_of (part l a)) (append-nil j)

pub put_in_opening : (has_orders : Orders → Type 0) (j k : List Entry) (a : ℕ) → Opens has_orders j k →
    put_of (part k a) ≡ put_of (part j a)
put_in_opening has_orders j k a o =
    ap (λ (l : List Entry). put_of (part l a)) o.aborts.whole ∙ put_abort o.aborts.changed o.taken a
    ∙ ap (λ (l : List Entry). put_of (part l a)) o.items.whole ∙ put_items o.items.items j a

-- ---- all bus nodes

module _ {E : Type 0} (ends : Ends E) where
  pub row_takes : (orders_are : ℕ → Orders → Type 0) (was_told : ℕ → BusTurn → Type 0) (was_kept : ℕ → Type 0)
      (struck : StruckNodes) (level : Level) (bus_nodes opened after : List BusNode) (links between : List E) →
      length opened ≡ length bus_nodes → length after ≡ length opened → AreReady opened → AreReady after →
      EachBusNode (BusNodeOpens orders_are) bus_nodes opened →
      EachBusNode (BusNodeTurns was_told was_kept struck level) opened after →
      GoesAll ends.same ends.stands bus_nodes opened links between → AllRead ends.dry opened between →
      RowTakesAll ends bus_nodes after links
  row_takes orders_are was_told was_kept struck level bus_nodes opened after links between co ca ro ra opens turns goes
      read
      = record {
        between = between;
        sames = goes.sames;
        read = λ k s d few.
            let here : k < length opened = omega (arith, few, ca) in
            let o = slice_index_or opened k s in let n = slice_index_or after k s in
            let e : o.ended ≡ n.ended =
            sym ((ro k s here).ready.sound.reads.stopped)
            ∙ sym (stops_in_bit o.journal.entries n.journal.entries _ _ (turns k s here).bit)
            ∙ (ra k s few).ready.sound.reads.stopped in
            let P : ℕ → Type 0 = λ m. ends.dry (slice_index_or between k d) (suc m) in subst P e (read k s d here);
        taken = λ k s d h few was a.
            let here : k < length opened = omega (arith, few, co) in
            let j = (slice_index_or bus_nodes k s).journal.entries in
            let o = (slice_index_or opened k s).journal.entries in
            let n = (slice_index_or after k s).journal.entries in
            let end = slice_index_or between k d in
            let put = put_in_opening (orders_are k) j o (suc a) (opens k s few) in
            let taken = taken_in_bit o n _ _ (suc a) (turns k s here).bit in
            let P : _ → Type 0 = λ p. ends.stands end (suc a) (record (account o (suc a) (h a)) { put = p }) in
            let Q : _ → Type 0 = λ t. ends.stands end (suc a) (record (account j (suc a) (h a)) { taken = t }) in
            subst Q (sym taken) (subst P put (goes.kept k s d h few was a));
      }

  -- by the journals
  all_takes : (bus_nodes after : List BusNode) (links : List E) → length after ≡ length bus_nodes → AreReady after →
      RowTakesAll ends bus_nodes after links → TakesAll ends (journals_of bus_nodes) (journals_of after) links
  all_takes [] after links len ready t = record {
    between = t.between;
    sames = t.sames;
    shown = all_dry ends.dry after t.between ready t.read;
    taken = λ node d h few. absurd (omega arith);
  }
  all_takes (s ∷ bus_nodes) after links len ready t = record {
    between = t.between;
    sames = t.sames;
    shown = all_dry ends.dry after t.between ready t.read;
    taken = λ node d h few kept.
        let all = s ∷ bus_nodes in let cb = count_is all in
        let near : node < length all = omega (arith, few, cb) in
        let old = (slice_index_or all node s).journal.entries in
        let P : List Entry → Type 0 = λ j. Kept ends.stands j (slice_index_or links node d) h in
        let Q : List Entry → Type 0 = λ j.
        HasTaken ends.stands old j (slice_index_or t.between node d) h in
        let R : List Entry → Type 0 = λ j.
        HasTaken ends.stands j (journal_at (journals_of after) node) (slice_index_or t.between node d) h in
        subst R (sym (journal_is all node s near))
        (subst Q (sym (journal_is after node s (omega (arith, near, len))))
        (t.taken node s d h near (subst P (journal_is all node s near) kept)));
  }

  -- as they are written back
  pub takes_back : (was lent now : List BusNode) (n : ℕ) (journals : List (List Entry)) (links : List E) →
      n ≡ length was → lent ≡ was → length now ≡ length lent → AreReady now → journals_of was ≡ journals →
      RowTakesAll ends lent now links →
      TakesAll ends journals (journals_of (take n (now ++ drop (length now) was))) links
  takes_back was lent now n journals links all is count ready seen t =
      let len : length now ≡ length was = count ∙ ap (λ (l : List BusNode). length l) is in
      let G : List BusNode → Type 0 = λ l. RowTakesAll ends l now links in
      let P : List (List Entry) → Type 0 = λ l. TakesAll ends l (journals_of now) links in
      let Q : List BusNode → Type 0 = λ l. TakesAll ends journals (journals_of l) links in
      subst Q (sym (are_back was now n all len))
      (subst P seen (all_takes was now links len ready (subst G is t)))
