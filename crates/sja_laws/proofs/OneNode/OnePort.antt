-- Entries and acts lead to one port.
use Rattle.std.proofs.Common.{◌≡◌, ◌≤◌, ◌+◌, ℕ, Bool, true, false, List, [], ◌∷◌, ◌++◌, refl, sym, ap, ◌∙◌, subst}
use Rattle.std.proofs.Common.{append-nil, arith}
use Rattle.std.proofs.lemmas.List.{append_cancel_right, same_from_push}
use Rattle.sja_journal.specs.declared.entry.Entry.{Entry}
use Rattle.sja_journal.specs.declared.entry.Entry.TheVariants.{Bit, Up as Item, Abort}
use Rattle.sja_journal.specs.declared.up.Up.{Up}
use Rattle.sja_journal.specs.BitEntries.{abort_as, entries_of_items}
use Rattle.sja_journal.specs.Places.{JournalPlace, past, past_all, place_of}
use Rattle.sja_journal.proofs.JournalEntries.EachInPart.{place_both}
use Rattle.sja_journal.proofs.JournalEntries.Entering.{item_bits}
use Rattle.sja_regs.specs.declared.registers.Registers.{Registers}
use Rattle.sja_regs.specs.Turns.{after_turn}
use Rattle.sja_driver.specs.Carried.{ported}
use Rattle.sja_driver.specs.Dated.{AreDone}
use Rattle.sja_driver.specs.TypedActs.{TypedAct}
use Rattle.sja_driver.proofs.OneBit.BitAsked.{place_abort, place_bit}
use Rattle.sja_driver.proofs.Trace.Later.{done_more, done_push}
use Rattle.sja_promises.specs.Registering.{IsPortBit, LeadTo}
use Rattle.sja_promises.specs.Registering.LeadTo.{power_on, act, bit}
use Rattle.sja_promises.proofs.Trace.AbortsFirst.{abort_first}
use Rattle.sja_laws.proofs.Journals.LastBits.{last_bit}
use Rattle.sja_laws.proofs.OneNode.OneTurn.{turns}

-- ---- when acts were done

items_place : (p : JournalPlace) (us : List Up) → (past_all p (entries_of_items us)).bits ≡ p.bits
items_place p [] = refl
items_place p (u ∷ us) = items_place (past p (Item u)) us ∙ item_bits p u

pub bits_with_items : (j k : List Entry) (us : List Up) → k ≡ j ++ entries_of_items us →
    (place_of k).bits ≡ (place_of j).bits
bits_with_items j k us e =
    ap (λ (l : List Entry). (place_of l).bits) e
    ∙ ap (λ (p : JournalPlace). p.bits) (place_both j (entries_of_items us)) ∙ items_place (place_of j) us

pub bits_with_bit : (j k : List Entry) (p q : Registers) → IsPortBit p q j k →
    (place_of k).bits ≡ (place_of j).bits + 1
bits_with_bit j k p q b =
    (place_bit (j ++ abort_as b.changed) k b.driven b.seen b.bit).1
    ∙ ap (λ (s : JournalPlace). s.bits + 1) (place_abort j b.changed)

pub done_by : (version : ℕ) (j : List Entry) (acts : List TypedAct) (p : Registers) → LeadTo version j acts p →
    AreDone (place_of j).bits acts
done_by version j acts p power_on = tt
done_by version k acts q (act j _ before d p _ led is) =
    let same = bits_with_items j k d.gave is.taken in
    let now = is.now in
    done_push (place_of k).bits before d
    (done_more (place_of j).bits (place_of k).bits before (omega (arith, same)) (done_by version j before p led))
    (omega (arith, same, now))
done_by version k acts q (bit j _ _ p _ led is) =
    let more = bits_with_bit j k p q is in
    done_more (place_of j).bits (place_of k).bits acts (omega (arith, more)) (done_by version j acts p led)

last_done : (n : ℕ) (acts : List TypedAct) (d : TypedAct) → AreDone n (acts ++ d ∷ []) → d.bits ≤ n
last_done n [] d h = h.0
last_done n (e ∷ acts) d h = last_done n acts d h.1

-- ---- the abort before a bit

pub not_last : {A : Type 0} (xs : List A) (x : A) → xs ++ x ∷ [] ≡ [] → ⊥
not_last [] x e = absurd cc
not_last (y ∷ xs) x e = absurd cc

no_abort_last : (version : ℕ) (j : List Entry) (acts : List TypedAct) (p : Registers) → LeadTo version j acts p →
    (k : List Entry) → j ≡ k ++ Abort ∷ [] → ⊥
no_abort_last version j acts p led k e =
    let h = abort_first version j acts p led k [] e in
    let no : [] ≡ Bit h.driven h.seen ∷ h.rest = h.whole in absurd cc

pub abort_once : (version : ℕ) (i j : List Entry) (acts others : List TypedAct) (p q : Registers) →
    LeadTo version i acts p → LeadTo version j others q → (changed again : Bool) →
    i ++ abort_as changed ≡ j ++ abort_as again → (i ≡ j) × (changed ≡ again)
abort_once version i j acts others p q led lead true true e = (append_cancel_right i j (Abort ∷ []) e, refl)
abort_once version i j acts others p q led lead false false e =
    (sym (append-nil i) ∙ e ∙ append-nil j, refl)
abort_once version i j acts others p q led lead true false e =
    absurd (no_abort_last version j others q lead i (sym (append-nil j) ∙ sym e))
abort_once version i j acts others p q led lead false true e =
    absurd (no_abort_last version i acts p led j (sym (append-nil i) ∙ e))

-- ---- a bit

-- what a bit of a port is beside another that leads to the same entries
pub record IsSameBit (i j : List Entry) (p q r s : Registers) : Type 0 where
  pub before : i ≡ j
  pub after : p ≡ q → r ≡ s

bit_alike : (version : ℕ) (i j k l : List Entry) (acts others : List TypedAct) (p q r s : Registers) →
    LeadTo version i acts p → LeadTo version j others q → (b : IsPortBit p r i k) (c : IsPortBit q s j l) → k ≡ l →
    IsSameBit i j p q r s
bit_alike version i j k l acts others p q r s led lead b c same =
    let h = last_bit (i ++ abort_as b.changed) (j ++ abort_as c.changed) k l b.driven c.driven b.seen c.seen b.bit
    c.bit same in
    let front = abort_once version i j acts others p q led lead b.changed c.changed h.before in
    record {
      before = front.0;
      after = λ ports. b.told ∙ ap (λ (x : Registers). after_turn x b.turn) ports
          ∙ ap (after_turn q) (turn front.1 h.before h.driven h.seen h.verdict_is) ∙ sym c.told;
    }
  where
    turn : b.changed ≡ c.changed → i ++ abort_as b.changed ≡ j ++ abort_as c.changed → b.driven ≡ c.driven →
        b.seen ≡ c.seen → b.bit.verdict ≡ c.bit.verdict → b.turn ≡ c.turn
    turn changed opened driven seen verdict =
        turns b.changed c.changed (i ++ abort_as b.changed) (j ++ abort_as c.changed) k l b.driven c.driven b.seen
        c.seen b.bit c.bit b.turn c.turn changed opened driven seen same verdict b.is_turn c.is_turn

-- ---- entries and acts

led_once : (version : ℕ) (j k : List Entry) (acts others : List TypedAct) (p q : Registers) → LeadTo version j acts p →
    LeadTo version k others q → j ≡ k → acts ≡ others → p ≡ q
led_once version j k acts others p q power_on power_on same alike = refl
led_once version j k acts others p q power_on (act i _ before d r _ led is) same alike =
    absurd (not_last before d (sym alike))
led_once version j k acts others p q power_on (bit i _ _ r _ led is) same alike =
    let more = bits_with_bit i k r q is in
    let none : 0 ≡ (place_of k).bits = ap (λ (l : List Entry). (place_of l).bits) same in
    absurd (omega (arith, more, none))
led_once version j k acts others p q (act i _ before d r _ led is) power_on same alike =
    absurd (not_last before d alike)
led_once version j k acts others p q (bit i _ _ r _ led is) power_on same alike =
    let more = bits_with_bit i j r p is in
    let none : (place_of j).bits ≡ 0 = ap (λ (l : List Entry). (place_of l).bits) same in
    absurd (omega (arith, more, none))
led_once version j k acts others p q (act i _ before d r _ led is) (act h _ early e s _ lead it) same alike =
    let parts = same_from_push before early d e alike in
    let front : i ≡ h = append_cancel_right i h (entries_of_items d.gave)
    (sym is.taken ∙ same ∙ it.taken ∙ ap (λ (x : TypedAct). h ++ entries_of_items x.gave) (sym parts.1)) in
    let ports = led_once version i h before early r s led lead front parts.0 in
    is.left ∙ ap (λ (x : Registers). ported x d.step d.answer) ports
    ∙ ap (λ (x : TypedAct). ported s x.step x.answer) parts.1 ∙ sym it.left
led_once version j k acts others p q (act i _ before d r _ led is) (bit h _ _ s _ lead it) same alike =
    let more = bits_with_bit h k s q it in
    let stays = bits_with_items i j d.gave is.taken in
    let now = is.now in
    let all = ap (λ (l : List Entry). (place_of l).bits) same in
    let late = last_done (place_of h).bits before d (subst (λ (l : List TypedAct). AreDone (place_of h).bits l)
    (sym alike)
    (done_by version h others s lead)) in
    absurd (omega (arith, more, stays, now, all, late))
led_once version j k acts others p q (bit h _ _ s _ lead it) (act i _ before d r _ led is) same alike =
    let more = bits_with_bit h j s p it in
    let stays = bits_with_items i k d.gave is.taken in
    let now = is.now in
    let all = ap (λ (l : List Entry). (place_of l).bits) same in
    let late = last_done (place_of h).bits before d (subst (λ (l : List TypedAct). AreDone (place_of h).bits l) alike
    (done_by version h acts s lead)) in
    absurd (omega (arith, more, stays, now, all, late))
led_once version j k acts others p q (bit i _ _ r _ led is) (bit h _ _ s _ lead it) same alike =
    let one = bit_alike version i h j k acts others r s p q led lead is it same in
    one.after (led_once version i h acts others r s led lead one.before alike)

pub port_once : (version : ℕ) (j : List Entry) (acts : List TypedAct) (p q : Registers) → LeadTo version j acts p →
    LeadTo version j acts q → p ≡ q
port_once version j acts p q led lead = led_once version j j acts acts p q led lead refl refl
