-- No item is taken before the first activation.
use Rattle.std.proofs.Common.{◌≡◌, Bool, false, List, [], ◌∷◌, ◌++◌, refl, ap, ◌∙◌, cond, append_assoc, arith}
use Rattle.std.proofs.lemmas.Bool.{ne_eqb}
use Rattle.can_levels.specs.declared.level.Level.{Level}
use Rattle.sja_journal.specs.declared.up.Up.{Up}
use Rattle.sja_journal.specs.declared.entry.Entry.{Entry}
use Rattle.sja_journal.specs.declared.entry.Entry.TheVariants.{Up as Item}
use Rattle.sja_journal.specs.Places.{past, place_of}
use Rattle.sja_journal.specs.Parts.{part}
use Rattle.sja_journal.specs.Carried.{taken_of}
use Rattle.sja_regs.specs.declared.bus_turn.BusTurn.{BusTurn}
use Rattle.sja_regs.specs.declared.orders.Orders.{Orders}
use Rattle.sja_bus_rules.specs.Buses.{IsNodeBit}
use Rattle.sja_journal.specs.Links.{Grows}
use Rattle.sja_journal.specs.BitEntries.{AreRead, MayHaveItems, abort_as, entries_of_items}
use Rattle.sja_promises.proofs.NodeLog.Adding.{added, added_own, bit_whole}
use Rattle.sja_driver.proofs.Account.Own.{own_taken}
use Rattle.sja_journal.proofs.Growing.Taking.{adds, taken_adds}
use Rattle.sja_threads.specs.Inside.Rounds.{TakesNoneBefore}

none_added : (j : List Entry) (us : List Up) → AreRead j us → adds j us 0 ≡ []
none_added j [] r = refl
none_added j (u ∷ us) r =
    let activation = (past (place_of j) (Item u)).activation in
    let read = r.0 in
    ap (λ (b : Bool). cond b (u ∷ []) [] ++ adds (j ++ Item u ∷ []) us 0)
    (ne_eqb activation 0 (λ none. omega (arith, read, none))) ∙ none_added (j ++ Item u ∷ []) us r.1

pub none_by_items : (j k : List Entry) → MayHaveItems j k → TakesNoneBefore j → TakesNoneBefore k
none_by_items j k h w =
    ap (λ (l : List Entry). taken_of (part l 0)) h.whole ∙ taken_adds j h.items 0
    ∙ ap (λ (l : List Up). l ++ adds j h.items 0) w ∙ none_added j h.items h.read

pub items_grow : (j k : List Entry) → MayHaveItems j k → Grows j k
items_grow j k h = (entries_of_items h.items, h.whole)

module _ (orders_are : Orders → Type 0) (was_told : BusTurn → Type 0) (was_kept : Type 0) (untold : Bool)
    (j k : List Entry) (driven seen : Level)
    (b : IsNodeBit orders_are was_told was_kept untold j k driven seen) where
  abbrev es : List Entry
  es = added b.opens.aborts.changed driven seen b.bit.verdict b.bit.off

  -- what a bit adds beside items
  from_taken : k ≡ b.opens.taken ++ es
  from_taken =
      bit_whole b.opened k driven seen b.bit
      ∙ ap (λ (l : List Entry). l ++ added false driven seen b.bit.verdict b.bit.off) b.opens.aborts.whole
      ∙ append_assoc b.opens.taken (abort_as b.opens.aborts.changed) (added false driven seen b.bit.verdict b.bit.off)

  pub none_by_bit : TakesNoneBefore j → TakesNoneBefore k
  none_by_bit w =
      ap (λ (l : List Entry). taken_of (part l 0)) from_taken
      ∙ own_taken b.opens.taken es 0 (added_own b.opens.aborts.changed driven seen b.bit.verdict b.bit.off)
      ∙ none_by_items j b.opens.taken b.opens.items w

  pub bit_grows : Grows j k
  bit_grows = (
    entries_of_items b.opens.items.items ++ es,
    from_taken ∙ ap (λ (l : List Entry). l ++ es) b.opens.items.whole
        ∙ append_assoc j (entries_of_items b.opens.items.items) es,
  )
