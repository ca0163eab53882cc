-- What a turn of the bus leaves.
use Rattle.std.proofs.Common.{◌≡◌, ◌||◌, ◌&&◌, not, is_some, Bool, true, false}
use Rattle.std.proofs.Common.{if◌then◌else◌, Option, None, refl, ap, sym, ◌∙◌}
use Rattle.std.proofs.lemmas.Bool.{and_right}
use Rattle.std.proofs.Math.Bool.{not-and_self}
use Rattle.sja_regs.specs.declared.bus_turn.BusTurn.{BusTurn}
use Rattle.sja_regs.specs.declared.registers.Registers.{Registers}
use Rattle.sja_regs.specs.Captures.{after_capture}
use Rattle.sja_regs.specs.Interrupting.{no_interrupt, pending_after}
use Rattle.sja_regs.specs.Bits.{differ}
use Rattle.sja_regs.specs.declared.interrupts.Interrupts.{Interrupts}
use Rattle.sja_regs.specs.Registers.{by_bytes, shown_state, error_causes, pending_in_reset}
use Rattle.sja_regs.specs.Turns.{is_live, is_sent, ends, goes_off, may_tell, dos_after, tbs_after, abort_after}
use Rattle.sja_regs.specs.Turns.{with_node, code_of_fault, lost_in, fault_in, causes, after_turn}
use Rattle.sja_regs.specs.Preservation.{OnlyEnabled, BringsNoNews, SaysTheSame}
use Rattle.sja_regs.specs.Inside.TurnParts.{activity, with_counters, with_role, with_news}

-- ---- interrupts that are pending

-- what is pending once its cause came or didn't was pending before, or is enabled
pending_or_enabled : (cause enabled pending : Bool) → (cause && enabled || pending) ≡ true →
    (pending || enabled) ≡ true
pending_or_enabled true true true h = refl
pending_or_enabled true true false h = refl
pending_or_enabled true false true h = refl
pending_or_enabled true false false h = h
pending_or_enabled false true true h = refl
pending_or_enabled false true false h = refl
pending_or_enabled false false true h = refl
pending_or_enabled false false false h = h

-- each of these interrupts is one of those
record AreAmong (few all : Interrupts) : Type 0 where
  ti : few.ti ≡ true → all.ti ≡ true
  ei : few.ei ≡ true → all.ei ≡ true
  doi : few.doi ≡ true → all.doi ≡ true
  epi : few.epi ≡ true → all.epi ≡ true
  ali : few.ali ≡ true → all.ali ≡ true
  bei : few.bei ≡ true → all.bei ≡ true

all_among : (i : Interrupts) → AreAmong i i
all_among i = record { ti = λ h. h; ei = λ h. h; doi = λ h. h; epi = λ h. h; ali = λ h. h; bei = λ h. h }

ei_among : (i : Interrupts) → AreAmong (record no_interrupt { ei = i.ei }) i
ei_among i =
    record {
      ti = λ h. absurd cc;
      ei = λ h. h;
      doi = λ h. absurd cc;
      epi = λ h. absurd cc;
      ali = λ h. absurd cc;
      bei = λ h. absurd cc;
    }

-- what stays pending was pending, also where reset mode is entered
stay_among : (off by_bytes : Bool) (i : Interrupts) →
    AreAmong (if off then (if by_bytes then record no_interrupt { ei = i.ei } else i) else i) i
stay_among true true i = ei_among i
stay_among true false i = all_among i
stay_among false by_bytes i = all_among i

turn_enabled : (p : Registers) (turn : BusTurn) → OnlyEnabled p (after_turn p turn)
turn_enabled p turn =
    let some = stay_among (goes_off p turn) (by_bytes p) (pending_after p.pending p.enabled (causes p turn)) in
    record {
      ti = λ h. pending_or_enabled (causes p turn).ti p.enabled.ti p.pending.ti (some.ti h);
      ei = λ h. pending_or_enabled (causes p turn).ei p.enabled.ei p.pending.ei (some.ei h);
      doi = λ h. pending_or_enabled (causes p turn).doi p.enabled.doi p.pending.doi (some.doi h);
      epi = λ h. pending_or_enabled (causes p turn).epi p.enabled.epi p.pending.epi (some.epi h);
      ali = λ h. pending_or_enabled (causes p turn).ali p.enabled.ali p.pending.ali (some.ali h);
      bei = λ h. pending_or_enabled (causes p turn).bei p.enabled.bei p.pending.bei (some.bei h);
    }

pub only_enabled : (p q : Registers) (turn : BusTurn) → q ≡ after_turn p turn → OnlyEnabled p q
only_enabled p q turn h = rw h (turn_enabled p turn)

-- ---- a turn that brought nothing to its activation

none_if : {A : Type 0} (a : Bool) (o : Option A) → o ≡ None → (if a then o else None) ≡ None
none_if true o e = e
none_if false o e = refl

no_end : (p : Registers) (turn : BusTurn) → BringsNoNews turn → ends p turn ≡ false
no_end p turn h =
    and_right (is_live p turn) (is_some turn.events.ended || turn.aborted)
    (ap (λ o. is_some o || turn.aborted) h.ended ∙ h.aborted)

stays_on : (p : Registers) (turn : BusTurn) → BringsNoNews turn → goes_off p turn ≡ false
stays_on p turn h = and_right (is_live p turn) turn.events.went_off h.went_off

keeps_dos : (p : Registers) (turn : BusTurn) → BringsNoNews turn → dos_after p turn ≡ p.dos
keeps_dos p turn h =
    ap (λ g. not g && (is_live p turn && turn.overrun || p.dos)) (stays_on p turn h)
    ∙ ap (λ o. o || p.dos) (and_right (is_live p turn) turn.overrun h.overrun)

keeps_tbs : (p : Registers) (turn : BusTurn) → BringsNoNews turn → tbs_after p turn ≡ p.tbs
keeps_tbs p turn h =
    ap (λ e. e || goes_off p turn || p.tbs) (no_end p turn h) ∙ ap (λ g. g || p.tbs) (stays_on p turn h)

keeps_abort : (p : Registers) (turn : BusTurn) → BringsNoNews turn → abort_after p turn ≡ p.abort
keeps_abort p turn h =
    ap (λ e. not (e || goes_off p turn) && p.abort) (no_end p turn h)
    ∙ ap (λ g. not g && p.abort) (stays_on p turn h)

no_loss : (p : Registers) (turn : BusTurn) → BringsNoNews turn → lost_in p turn ≡ None
no_loss p turn h = none_if (is_live p turn) turn.events.lost h.lost

no_fault : (p : Registers) (turn : BusTurn) → BringsNoNews turn → fault_in p turn ≡ None
no_fault p turn h =
    none_if (is_live p turn) (code_of_fault turn.events.fault turn.events.receiving)
    (ap (λ f. code_of_fault f turn.events.receiving) h.fault)

no_activity : (p : Registers) (turn : BusTurn) → BringsNoNews turn →
    pending_after p.pending p.enabled (activity p turn) ≡ p.pending
no_activity p turn h = λ i. record p.pending {
  ti = ap (λ e. (e && not p.tbs) && p.enabled.ti || p.pending.ti) (no_end p turn h) i;
  doi = (ap (λ d. (not p.dos && d) && p.enabled.doi || p.pending.doi) (keeps_dos p turn h)
      ∙ ap (λ d. d && p.enabled.doi || p.pending.doi) (not-and_self p.dos)) i;
  ali = ap (λ l. (l && may_tell p p.alc) && p.enabled.ali || p.pending.ali)
      (and_right (is_live p turn) (is_some turn.events.lost) (ap is_some h.lost)) i;
  bei = ap (λ f. (f && may_tell p p.ecc) && p.enabled.bei || p.pending.bei)
      (and_right (is_live p turn) (is_some turn.events.fault) (ap is_some h.fault)) i;
}

stays_pending : (p : Registers) (turn : BusTurn) → BringsNoNews turn → (with_news p turn).pending ≡ p.pending
stays_pending p turn h =
    let left : Interrupts = pending_after p.pending p.enabled (activity p turn) in
    ap (λ g. if g then pending_in_reset p left else left) (stays_on p turn h) ∙ no_activity p turn h

no_news : (p : Registers) (turn : BusTurn) → BringsNoNews turn → with_news p turn ≡ p
no_news p turn h = λ i. record p {
  mode = record p.mode { rm = ap (λ g. g || p.mode.rm) (stays_on p turn h) i };
  dos = keeps_dos p turn h i;
  tbs = keeps_tbs p turn h i;
  tcs = ap (λ s. s || p.tcs)
      (and_right (is_live p turn) (is_sent turn.events.ended) (ap is_sent h.ended)) i;
  rs = ap (λ g. g || p.rs) (stays_on p turn h) i;
  ts = ap (λ g. g || p.ts) (stays_on p turn h) i;
  pending = stays_pending p turn h i;
  frozen = ap (λ g. if g then shown_state p else p.frozen) (stays_on p turn h) i;
  alc = ap (after_capture p.alc) (no_loss p turn h) i;
  ecc = ap (after_capture p.ecc) (no_fault p turn h) i;
  abort = keeps_abort p turn h i;
}

-- the node's part of it is all of it
pub nothing_else : (p : Registers) (turn : BusTurn) → BringsNoNews turn →
    with_counters (with_role p turn) turn ≡ after_turn p turn
nothing_else p turn h = sym (no_news (with_counters (with_role p turn) turn) turn h)

-- ---- a turn that says what the port shows

no_differ : (a b : Bool) → (differ a a || differ b b) ≡ false
no_differ true true = refl
no_differ true false = refl
no_differ false true = refl
no_differ false false = refl

no_change : (a b : Bool) → (differ a a && b) ≡ false
no_change true b = refl
no_change false b = refl

said_node : (p : Registers) (turn : BusTurn) → SaysTheSame p turn → with_node p turn ≡ p
said_node p turn h = λ i. record p {
  rxerr = h.rxerr i;
  txerr = h.txerr i;
  rs = h.rs i;
  ts = h.ts i;
  bs = h.bs i;
}

-- an error state that stays as it is has no causes
still : (p : Registers) → pending_after p.pending p.enabled (error_causes p p) ≡ p.pending
still p = λ i. record p.pending {
  ei = ap (λ b. b && p.enabled.ei || p.pending.ei) (no_differ (shown_state p).es (shown_state p).bs) i;
  epi = ap (λ b. b && p.enabled.epi || p.pending.epi)
      (no_change (shown_state p).passive (not (by_bytes p && (not (shown_state p).bs && (shown_state p).bs)))) i;
}

counted : (p : Registers) (turn : BusTurn) → SaysTheSame p turn → with_counters p turn ≡ p
counted p turn h = λ i. record p {
  rxerr = h.rxerr i;
  txerr = h.txerr i;
  bs = h.bs i;
  pending = (ap (λ q. pending_after p.pending p.enabled (error_causes p q)) (said_node p turn h) ∙ still p) i;
}

-- the node's part of it changes nothing
pub nothing_said : (p : Registers) (turn : BusTurn) → SaysTheSame p turn → with_counters (with_role p turn) turn ≡ p
nothing_said p turn h =
    ap (λ r. with_counters r turn) (λ i. record p { rs = h.rs i; ts = h.ts i }) ∙ counted p turn h

-- what is said of a whole turn
pub ruleset whole_turn = (only_enabled, nothing_else)
