-- A port beside the journal of its node, past a bit and after an act more.
use Rattle.std.proofs.Common.{◌≡◌, ◌⊎◌, inl, inr, Bool, true, false, not, List, [], ◌∷◌}
use Rattle.std.proofs.Common.{◌++◌, refl, sym, ap, ◌∙◌, subst, append-nil}
use Rattle.std.specs.Prelude.{◌||◌, ◌&&◌, ◌==◌}
use Rattle.std.proofs.lemmas.Bool.{eq-eqb}
use Rattle.std.proofs.Math.Bool.{or-true}
use Rattle.can_levels.specs.declared.level.Level.{Level}
use Rattle.sja_journal.specs.declared.entry.Entry.{Entry}
use Rattle.sja_journal.specs.declared.entry.Entry.TheVariants.{Bit}
use Rattle.sja_journal.specs.Places.{JournalPlace, place_of}
use Rattle.sja_journal.proofs.JournalEntries.Entering.{place_push}
use Rattle.sja_regs.specs.declared.bus_turn.BusTurn.{BusTurn}
use Rattle.sja_regs.specs.declared.orders.Orders.{Orders}
use Rattle.sja_regs.specs.declared.registers.Registers.{Registers}
use Rattle.sja_regs.specs.Turns.{goes_off, after_turn}
use Rattle.sja_journal.specs.BitEntries.{HasBit, abort_as, judged_as, off_as}
use Rattle.sja_driver.specs.TypedActs.{TypedAct}
use Rattle.sja_driver.proofs.Registers.TbsAndAbort.{TbsIsRight, tbs_after_turn}
use Rattle.sja_bus_rules.specs.Buses.{IsNodeBit}
use Rattle.sja_promises.specs.Registering.{IsPortBit}
use Rattle.sja_driver.specs.Asking.{IsAsked}
use Rattle.sja_driver.proofs.OneBit.BitAsked.{HasCut, place_abort, place_bit, bit_asked, place_judged}
use Rattle.sja_promises.proofs.OneNode.Registers.{IsPort}

off_after : (j k : List Entry) (off : Bool) → k ≡ j ++ off_as off → (place_of k).off ≡ true →
    (off ≡ true) ⊎ ((place_of j).off ≡ true)
off_after j k true e is = inl refl
off_after j k false e is = inr (sym (ap (λ (l : List Entry). (place_of l).off) (e ∙ append-nil j)) ∙ is)

off_bit : (j k : List Entry) (driven seen : Level) (b : HasBit j driven seen k) → (place_of k).off ≡ true →
    (b.off ≡ true) ⊎ ((place_of j).off ≡ true)
off_bit j k driven seen b is =
    let l : List Entry = j ++ Bit driven seen ∷ [] in
    elim (off_after (l ++ judged_as b.verdict) k b.off b.whole is) [
      | inl off ↦ inl off
      | inr was ↦ inr (sym (ap (λ (x : JournalPlace). x.off)
          (place_judged l b.verdict ∙ place_push j (Bit driven seen)))
          ∙ was)
    ]

module _ (j k : List Entry) (acts : List TypedAct) (p q : Registers) (h : IsPort j acts p) (b : IsPortBit p q j k) where
  abbrev opened_now : List Entry
  opened_now = j ++ abort_as b.changed

  activation_same : (place_of k).activation ≡ (place_of j).activation
  activation_same = (place_bit opened_now k b.driven b.seen b.bit).0
      ∙ ap (λ (x : JournalPlace). x.activation) (place_abort j b.changed)

  -- the turn is of the port's activation
  same_turn : (b.turn.activation == p.activation) ≡ true
  same_turn = eq-eqb b.turn.activation p.activation (b.is_turn.says.activation ∙ activation_same ∙ sym h.activation)

  went_reset : (rm same went : Bool) → same ≡ true → went ≡ true → ((not rm && same) && went || rm) ≡ true
  went_reset true same went e f = refl
  went_reset false true true e f = refl
  went_reset false false went e f = absurd cc
  went_reset false true false e f = absurd cc

  rm_now : q.mode.rm ≡ (goes_off p b.turn || p.mode.rm)
  rm_now = ap (λ (r : Registers). r.mode.rm) b.told

  off_now : (place_of k).off ≡ true → q.mode.rm ≡ true
  off_now is = elim (off_bit opened_now k b.driven b.seen b.bit is) [
    | inl off ↦ rm_now ∙ went_reset p.mode.rm (b.turn.activation == p.activation) b.turn.events.went_off same_turn
        (b.is_turn.off ∙ off)
    | inr was ↦ rm_now ∙ ap (λ (r : Bool). goes_off p b.turn || r)
        (h.off (sym (ap (λ (x : JournalPlace). x.off) (place_abort j b.changed)) ∙ was))
        ∙ or-true (goes_off p b.turn)
  ]

  pub port_bit : IsPort k acts q
  port_bit = record {
    inactive = λ e. rm_now ∙ ap (λ (r : Bool). goes_off p b.turn || r) (h.inactive e) ∙ or-true (goes_off p b.turn);
    off = off_now;
    activation = ap (λ (r : Registers). r.activation) b.told ∙ h.activation ∙ sym activation_same;
    opened = activation_same ∙ h.opened;
    buffer = subst (λ (r : Registers). TbsIsRight r) (sym b.told) (tbs_after_turn p b.turn h.buffer);
  }

  -- as a bus has it where no item was taken before the bit
  node_bit : IsNodeBit (λ (o : Orders). o.abort ≡ p.abort) (λ (t : BusTurn). q ≡ after_turn p t) (q ≡ p) false j k
      b.driven b.seen
  node_bit = record {
    opened = opened_now;
    opens = record {
      taken = j;
      items = record { items = []; whole = sym (append-nil j); read = tt; in_order = tt };
      aborts = record { changed = b.changed; whole = refl };
      orders = record { abort = p.abort; ended = false };
      are_orders = refl;
      unasked = b.unasked;
      applied = b.applied;
    };
    bit = b.bit;
    turn = b.turn;
    is_turn = b.is_turn;
    port = inl b.told;
  }

  pub asked_bit : IsAsked j p → HasCut j → IsAsked k q
  unfolding node_bit
  asked_bit asked has =
      bit_asked false j k b.driven b.seen p q node_bit refl (λ t told_so. told_so) (λ kept. kept) has h.buffer
      h.activation asked
