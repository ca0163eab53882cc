-- The port of a node after a bit.
use Rattle.std.proofs.Common.{◌≡◌, ℕ, ◌≤◌, Bool, true, false, List, refl, sym, ap, ◌∙◌, subst, arith, inl, inr}
use Rattle.std.specs.Prelude.{◌⊎◌, ◌||◌, ◌&&◌, ◌==◌, not, if◌then◌else◌, is_some}
use Rattle.std.proofs.lemmas.Bool.{eq-eqb, and_parts}
use Rattle.can_levels.specs.declared.level.Level.{Level}
use Rattle.can_node_rules.specs.declared.bit_events.BitEvents.{BitEvents}
use Rattle.sja_journal.specs.declared.entry.Entry.{Entry}
use Rattle.sja_journal.specs.Places.{place_of}
use Rattle.sja_regs.specs.declared.bus_turn.BusTurn.{BusTurn}
use Rattle.sja_regs.specs.declared.registers.Registers.{Registers}
use Rattle.sja_regs.specs.Registers.{by_bytes}
use Rattle.sja_regs.specs.Turns.{after_turn}
use Rattle.sja_journal.specs.BitEntries.{HasBit}
use Rattle.sja_bus_rules.specs.Telling.{IsTurn, IsPassedOver}
use Rattle.sja_driver.specs.TypedActs.{TypedAct, opened_by, is_active}
use Rattle.sja_driver.specs.Aborting.{sends_taken}
use Rattle.sja_driver.specs.Settings.{settings_of}
use Rattle.sja_driver.specs.Windows.{off_by}
use Rattle.sja_driver.specs.Alike.{AreAlike}
use Rattle.sja_driver.specs.Porting.{IsPorted}
use Rattle.sja_driver.proofs.OneNode.Settings.{set_alike, alike_set}
use Rattle.std.proofs.Math.Bool.{or-false, or_assoc}

-- whether a bus-off is asked for stays: once TXERR was written it isn't the node's
asked_on : (raw same tec rec : Bool) (told was : ℕ) →
    (raw && (tec && ((if not raw || (same && not (tec || rec)) then told else was) == 255)))
    ≡ (raw && (tec && (was == 255)))
asked_on false same tec rec told was = refl
asked_on true same false rec told was = refl
asked_on true true true rec told was = refl
asked_on true false true rec told was = refl

alike_turn : (p r : Registers) (turn : BusTurn) → AreAlike p r → AreAlike (after_turn p turn) r
alike_turn p r turn h =
    let asks = asked_on (by_bytes p) (turn.activation == p.activation) (is_some p.set_tec) (is_some p.set_rec)
    turn.txerr
    p.txerr ∙ h.asks in alike_set _ r (λ k. record (set_alike h k) { asks = asks k })

-- reset mode is entered where the turn says bus-off in a turn of the port's activation
off_or : (rm same went off : Bool) → same ≡ true → went ≡ off → (((not rm && same) && went) || rm) ≡ (rm || off)
off_or true same went off e f = refl
off_or false true true true e f = refl
off_or false true false false e f = refl
off_or false true true false e f = absurd cc
off_or false true false true e f = absurd cc
off_or false false went off e f = absurd cc

-- the turn of a bit, which the port was told, or for which it was passed over
module _ (untold changed : Bool) (j opened k : List Entry) (driven seen : Level) (bit : HasBit opened driven seen k)
    (turn : BusTurn) (is_turn : IsTurn changed opened driven seen k bit turn) (p q : Registers)
    (port : (q ≡ after_turn p turn) ⊎ IsPassedOver (q ≡ p) untold j opened turn) where
  none_off : IsPassedOver (q ≡ p) untold j opened turn → bit.off ≡ false
  none_off over = sym is_turn.off ∙ ap (λ (e : BitEvents). e.went_off) over.alone.events

  reset_now : p.activation ≡ (place_of k).activation → q.mode.rm ≡ (p.mode.rm || bit.off)
  reset_now at = elim port [
    | inl told ↦
        ap (λ (r : Registers). r.mode.rm) told
        ∙ off_or p.mode.rm (turn.activation == p.activation) turn.events.went_off bit.off
        (eq-eqb turn.activation p.activation (is_turn.says.activation ∙ sym at)) is_turn.off
    | inr over ↦ ap (λ (r : Registers). r.mode.rm) over.kept ∙ sym (or-false p.mode.rm)
        ∙ ap (λ (b : Bool). p.mode.rm || b) (sym (none_off over))
  ]

  set_now : (r : Registers) → AreAlike p r → AreAlike q r
  set_now r h = elim port [
    | inl told ↦ subst (λ (x : Registers). AreAlike x r) (sym told) (alike_turn p r turn h)
    | inr over ↦ subst (λ (x : Registers). AreAlike x r) (sym over.kept) h
  ]

  -- what a turn leaves, in either case
  kept : {A : Type 0} (f : Registers → A) → f (after_turn p turn) ≡ f p → f q ≡ f p
  kept f same = elim port [
    | inl told ↦ ap f told ∙ same
    | inr over ↦ ap f over.kept
  ]

  -- an abort that stands stood before
  stood : q.abort ≡ true → p.abort ≡ true
  stood h = elim port [
    | inl told ↦ (and_parts _ p.abort (sym (ap (λ (r : Registers). r.abort) told) ∙ h)).1
    | inr over ↦ sym (ap (λ (r : Registers). r.abort) over.kept) ∙ h
  ]

  pub ported_bit : (version : ℕ) (acts : List TypedAct) → settings_of version k acts ≡ settings_of version j acts →
      (place_of k).activation ≡ opened_by acts → (place_of j).bits ≤ (place_of k).bits →
      sends_taken k ≡ sends_taken j →
      off_by (place_of k).bits k (opened_by acts) ≡ (off_by (place_of j).bits j (opened_by acts) || bit.off) →
      IsPorted version j acts p → IsPorted version k acts q
  ported_bit version acts settings at more sends offs h = record {
    version_is = kept (λ (r : Registers). r.version) refl ∙ h.version_is;
    set = subst (λ (r : Registers). AreAlike q r) (sym settings) (set_now (settings_of version j acts) h.set);
    reset =
        reset_now (h.activation ∙ sym at) ∙ ap (λ (b : Bool). b || bit.off) h.reset
        ∙ or_assoc (not (is_active acts)) (off_by (place_of j).bits j (opened_by acts)) bit.off
        ∙ ap (λ (b : Bool). not (is_active acts) || b) (sym offs);
    activation = kept (λ (r : Registers). r.activation) refl ∙ h.activation;
    unclosed = kept (λ (r : Registers). r.closed) refl ∙ h.unclosed;
    commanded = λ stands.
        let c = h.commanded (stood stands) in let b = c.by_then in let l = c.later in record {
          early = c.early;
          command = c.command;
          late = c.late;
          whole = c.whole;
          is_abort = c.is_abort;
          by_then = omega (arith, b, more);
          later = omega (arith, l, sends);
        };
  }
