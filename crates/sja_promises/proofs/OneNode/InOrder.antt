-- What the act that comes next gives may come there.
use Rattle.std.proofs.Common.{◌≡◌, ℕ, ◌+◌, true, false, List, [], ◌∷◌, ◌++◌, refl, sym, ap, ◌∙◌, subst}
use Rattle.std.proofs.Common.{arith}
use Rattle.std.specs.Prelude.{not}
use Rattle.can_node_rules.specs.declared.request.Request.{Request}
use Rattle.sja_journal.specs.declared.up.Up.{Up}
use Rattle.sja_journal.specs.declared.up.Up.TheVariants.{Start as StartItem, Credit, Send as SendItem, Stop as StopItem}
use Rattle.sja_journal.specs.declared.entry.Entry.{Entry}
use Rattle.sja_journal.specs.declared.entry.Entry.TheVariants.{Up as Item}
use Rattle.sja_journal.specs.Written.{Room}
use Rattle.sja_journal.proofs.JournalEntries.Rooms.{HasFree, free_not_full}
use Rattle.sja_link.specs.Looking.{one_if}
use Rattle.sja_journal.specs.Places.{place_of}
use Rattle.sja_journal.specs.Verdicts.{IsLawful as IsLawfulJournal}
use Rattle.sja_journal.specs.declared.bus_fault.BusFault.{BusFault}
use Rattle.sja_journal.specs.declared.bus_fault.BusFault.TheVariants.{BitsSpent, BadCredit, Stuck, BadOrder}
use Rattle.sja_journal.specs.declared.bus_fault.BusFault.TheVariants.{JournalFull}
use Rattle.sja_journal.specs.Links.{stops_of}
use Rattle.sja_journal.specs.BitEntries.{entries_of_items}
use Rattle.sja_journal.specs.Opening.{IsOpen, IsBetween}
use Rattle.sja_journal.specs.OutOfOrder.{IsBadCredit, IsOutOfOrder, IsAskedWrongly}
use Rattle.sja_journal.specs.OutOfOrder.IsAskedWrongly.{outside, while_held, again_off}
use Rattle.sja_bus_rules.specs.Reasons.{IsRefusedFor}
use Rattle.sja_regs.specs.declared.registers.Registers.{Registers}
use Rattle.sja_driver.specs.TypedActs.{TypedAct, opened_by, is_active}
use Rattle.sja_driver.proofs.Registers.TbsAndAbort.{TbsIsRight}
use Rattle.sja_driver.specs.Asking.{IsAsked}
use Rattle.sja_driver.specs.Linking.{IsLevel}
use Rattle.sja_driver.specs.Porting.{IsPorted}
use Rattle.sja_driver.proofs.Step.GivenKinds.{Kind}
use Rattle.sja_driver.proofs.Step.GivenKinds.Kind.{quiet, starts, credits, sends, stops}
use Rattle.sja_promises.proofs.OneNode.After.{enters, level_after}
use Rattle.sja_promises.proofs.OneNode.AskedAndCounted.{was_on, on_bus}
use Rattle.sja_journal.proofs.Ledger.Small.{no_item, one_item, neither}
use Rattle.sja_promises.proofs.OneNode.Trying.{IsNext}

module _ (version : ℕ) (j : List Entry) (acts : List TypedAct) (d : TypedAct) (p q : Registers)
    (next : IsNext j acts p q d)
    (ported : IsPorted version j acts p) (asked : IsAsked j p) (level : IsLevel j acts)
    (kind : Kind (is_active acts) (opened_by acts) d.step d.answer d.gave) (buffer : TbsIsRight p)
    (lawful : IsLawfulJournal j) (right : (n : ℕ) → d.gave ≡ Credit n ∷ [] → IsBadCredit j n → ⊥) where
  on : (request : Request) → d.gave ≡ SendItem request ∷ [] → ((p.mode.rm ≡ false) × (p.tbs ≡ true)) ×
      ((place_of j).off ≡ false)
  on request gave =
      let k = j ++ entries_of_items d.gave in
      let e = enters j k acts d refl level kind in let after = level_after j k acts d refl level kind in (
        was_on version j k acts d p q e next ported level after kind buffer request gave,
        on_bus version j k acts d p q e next ported level after kind buffer request gave,
      )

  wrongly : (request : Request) → is_active acts ≡ true → d.gave ≡ SendItem request ∷ [] → IsAskedWrongly j → ⊥
  wrongly request was gave (outside between) =
      let b = level.begun in let e = level.ended in let a : one_if (is_active acts) ≡ 1 = ap one_if was in
      omega (arith, b, e, a, between)
  wrongly request was gave (while_held opened free held) =
      neither p.tbs (on request gave).0.1 (asked lawful.found lawful.cut ∙ ap not (held lawful.found lawful.cut))
  wrongly request was gave (again_off opened off again) = neither (place_of j).off off (on request gave).1

  in_order : (item : Up) → d.gave ≡ item ∷ [] → IsOutOfOrder j item → ⊥
  in_order item gave out = by kind
    where
      b : (place_of j).activation ≡ opened_by acts
      b = level.begun

      ended : stops_of j + one_if (is_active acts) ≡ opened_by acts
      ended = level.ended

      there : (u : Up) → d.gave ≡ u ∷ [] → IsOutOfOrder j u
      there u given = subst (λ (x : Up). IsOutOfOrder j x) (one_item item u (sym gave ∙ given)) out

      by : Kind (is_active acts) (opened_by acts) d.step d.answer d.gave → ⊥
      by (quiet none o same) = no_item item (sym gave ∙ none)
      by (starts was few config given o same) =
          let w : IsOpen j = there (StartItem config) given in let a : one_if (is_active acts) ≡ 0 = ap one_if was in
          let s = b in let e = ended in omega (arith, w, a, s, e)
      by (credits was n given o same) = there (Credit n) given
      by (sends was request given o same) = wrongly request was given (there (SendItem request) given)
      by (stops was given o same) =
          let w : IsBetween j = there StopItem given in let a : one_if (is_active acts) ≡ 1 = ap one_if was in
          let s = b in let e = ended in omega (arith, w, a, s, e)

  pub never_refused : (node : ℕ) (room : Room) (item : Up) (f : BusFault) → d.gave ≡ item ∷ [] → HasFree 4 room j →
      IsRefusedFor node room j item f → ⊥
  never_refused node room item (BadCredit m bytes) gave fits why =
      right bytes (gave ∙ ap (λ (u : Up). u ∷ []) why.1) why.2
  never_refused node room item (BadOrder m) gave fits why = in_order item gave why.1
  never_refused node room item (JournalFull m) gave fits why = free_not_full 3 room j (Item item) fits why.1
  never_refused node room item (Stuck m) gave fits why = why
  never_refused node room item BitsSpent gave fits why = why
