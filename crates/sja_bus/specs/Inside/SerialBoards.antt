-- Why each port of a board in one thread has orders, and keeps its facts in each turn.
use Rattle.std.specs.Prelude.{◌≡◌, ◌<◌, ◌⊎◌, ◌==◌, ◌||◌, ◌&&◌, not, ℕ, Bool, true, false, if◌then◌else◌}
use Rattle.std.specs.Prelude.{Option, Some, None, is_some, List, [], ◌∷◌, length, slice_index_or, refl}
use Rattle.std.proofs.Common.{ap, sym, subst, inl, inr, ◌∙◌, arith}
use Rattle.std.proofs.lemmas.Bool.{and_parts, not-true, or_parts, or_right}
use Rattle.std.proofs.lemmas.List.{get_or_default as or_same}
use Rattle.can_node_rules.specs.declared.outcome.Outcome.{Outcome}
use Rattle.sja_regs.specs.declared.bus_turn.BusTurn.{BusTurn}
use Rattle.sja_regs.specs.declared.orders.Orders.{Orders}
use Rattle.sja_regs.specs.declared.registers.Registers.{Registers}
use Rattle.sja_regs.specs.declared.interrupts.Interrupts.{Interrupts}
use Rattle.sja_regs.specs.Facts.{RegisterFacts}
use Rattle.sja_regs.specs.Interrupting.{no_interrupt, pending_after}
use Rattle.sja_regs.specs.Registers.{by_bytes}
use Rattle.sja_regs.specs.Turns.{is_live, is_sent, ends, goes_off, causes, after_turn}
use Rattle.sja_bus.specs.Boards.{HasFacts, HasOrders, WasKept, WasTold}

-- ---- orders

pub orders_at : (ports : List Registers) (node : ℕ) → node < length ports → (o : Orders) × HasOrders ports node o
orders_at [] node few = absurd (omega (arith, few))
orders_at (first ∷ ports) node few =
    let p = slice_index_or (first ∷ ports) node first in
    let orders : Orders = record { abort = p.abort; ended = p.ended } in (
      orders,
      λ d. ap (λ (q : Registers). let o : Orders = record { abort = q.abort; ended = q.ended } in o)
          (or_same (first ∷ ports) node first d few),
    )

-- ---- facts

-- a request that didn't end wasn't sent
unsent : (live aborted : Bool) (o : Option Outcome) → (live && (is_some o || aborted)) ≡ false →
    (live && is_sent o) ≡ false
unsent false aborted o e = refl
unsent true aborted None e = refl
unsent true aborted (Some outcome) e = absurd cc

-- TBS and DOS where reset mode was entered, or was before
in_reset : (ended off rm tbs live overrun dos : Bool) → (off || rm) ≡ true →
    (rm ≡ true → (tbs ≡ true) × (dos ≡ false) × (live ≡ false)) →
    ((ended || off || tbs) ≡ true) × ((not off && (live && overrun || dos)) ≡ false)
in_reset true true rm tbs live overrun dos e h = (refl, refl)
in_reset false true rm tbs live overrun dos e h = (refl, refl)
in_reset ended false rm tbs live overrun dos e h =
    let was = h e in (or_right (ended || false) tbs was.0, ap (λ l. l && overrun || dos) was.2 ∙ was.1)

-- no wake-up interrupt is pending, nor RI, where none was, also where reset mode is entered
never_told : (off raw : Bool) (i : Interrupts) → (i.wui ≡ false) × (i.ri ≡ false) →
    let told = if off then (if raw then record no_interrupt { ei = i.ei } else i) else i in
    (told.wui ≡ false) × (told.ri ≡ false)
never_told true true i h = (refl, refl)
never_told true false i h = h
never_told false raw i h = h

turn_keeps : (p : Registers) (turn : BusTurn) → RegisterFacts p → RegisterFacts (after_turn p turn)
turn_keeps p turn h =
    let ended = ends p turn in let off = goes_off p turn in let live = is_live p turn in record {
      busy = λ e.
          let none = or_parts (ended || off) p.tbs e in let stays = or_parts ended off none.0 in
          let was = h.busy none.1 in (
            ap (λ s. s || p.tcs) (unsent live turn.aborted turn.events.ended stays.0) ∙ was.0,
            ap (λ g. g || p.mode.rm) stays.1 ∙ was.1,
          );
      reset = λ e.
          in_reset ended off p.mode.rm p.tbs live turn.overrun p.dos e
          (λ rm. ((h.reset rm).0, (h.reset rm).1, ap (λ r. not r && (turn.activation == p.activation)) rm));
      first_version = h.first_version;
      abort = λ e.
          let stands = and_parts (not (ended || off)) p.abort e in
          ap (λ n. n || p.tbs) (not-true (ended || off) stands.0) ∙ h.abort stands.1;
      set = λ e. h.set (or_parts off p.mode.rm e).1;
      set_first = h.set_first;
      never = never_told off (by_bytes p) (pending_after p.pending p.enabled (causes p turn)) h.never;
      acr = h.acr;
      amr = h.amr;
      buffer = h.buffer;
    }

-- a port that was told a turn or kept has them still
pub facts_after : (old new : List Registers) (node : ℕ) → length new ≡ length old → node < length old →
    WasKept old new node ⊎ ((turn : BusTurn) × WasTold old new node turn) → HasFacts old node → HasFacts new node
facts_after old new node count near so facts d few =
    let was = facts d near in
    let F : Registers → Type 0 = λ p. RegisterFacts p in
    elim so [
      | inl kept ↦ subst F (sym (kept d)) was
      | inr told ↦ subst F (sym (told.1 d)) (turn_keeps (slice_index_or old node d) told.0 was)
    ]
