-- A port after a step that gave nothing to the bus shows what its node's record says, where it did before.
use Rattle.std.proofs.Common.{◌≡◌, ℕ, Bool, true, false, Option, Some, None, List, [], ◌∷◌, refl, sym, ap, ◌∙◌, subst}
use Rattle.std.specs.Prelude.{◌==◌, ◌||◌, ◌&&◌, not, if◌then◌else◌, is_some, unwrap_or}
use Rattle.std.proofs.Math.Bool.{or-true}
use Rattle.can_frame.specs.declared.buffer_view.BufferView.{BufferView}
use Rattle.sja_journal.specs.declared.entry.Entry.{Entry}
use Rattle.sja_regs.specs.declared.bus_turn.BusTurn.{BusTurn}
use Rattle.sja_regs.specs.declared.mode.Mode.{Mode as ModeBits}
use Rattle.sja_regs.specs.declared.reg_fault.RegFault.{RegFault}
use Rattle.sja_regs.specs.declared.reg_fault.RegFault.TheVariants.{ReadOnly, ResetOnly}
use Rattle.sja_regs.specs.declared.register.Register.{Register}
use Rattle.sja_regs.specs.declared.register.Register.TheVariants.{Mode, Interrupt, InterruptEnable}
use Rattle.sja_regs.specs.declared.register.Register.TheVariants.{ArbitrationLostCapture, ErrorCodeCapture}
use Rattle.sja_regs.specs.declared.register.Register.TheVariants.{ErrorWarningLimit, AcceptanceCode, AcceptanceMask}
use Rattle.sja_regs.specs.declared.register.Register.TheVariants.{ReceiveErrorCounter, TransmitErrorCounter, Buffer}
use Rattle.sja_regs.specs.declared.registers.Registers.{Registers}
use Rattle.sja_regs.specs.Addresses.{register_at}
use Rattle.sja_regs.specs.Reading.{after_reading_at}
use Rattle.sja_regs.specs.Modes.{mode_of}
use Rattle.sja_regs.specs.Refusals.{first_fault}
use Rattle.sja_regs.specs.Registers.{by_bytes, asks_off, is_forced}
use Rattle.sja_regs.specs.Turns.{rs_told, ts_told, stands_still, follows_node, rxerr_after, txerr_after, bs_after}
use Rattle.sja_regs.specs.Writing.{after_forced_off, write_faults_at, after_writing_at}
use Rattle.sja_steps.specs.declared.step.Step.{Step}
use Rattle.sja_steps.specs.declared.step.Step.TheVariants.{Start, Stop, Window, Release, Read}
use Rattle.sja_steps.specs.declared.step.Step.TheVariants.{Write, Load, Command, Await, Sent, Interrupt, At}
use Rattle.sja_steps.specs.declared.step_answer.StepAnswer.{StepAnswer}
use Rattle.sja_steps.specs.declared.step_answer.StepAnswer.TheVariants.{Done}
use Rattle.sja_driver.specs.Answers.{done_unless}
use Rattle.sja_driver.specs.Carried.{Tells, carried, ported}
use Rattle.sja_driver.proofs.Step.Modes.{write_rm}
use Rattle.sja_driver.specs.Shown.{ShowsRecord}

-- counters and BS of q are those of p and the node's in the same turns, or they are the node's in no turn
data CountsOn (p q : Registers) : Type 0 where
  same_counts : q.rxerr ≡ p.rxerr → q.txerr ≡ p.txerr → q.bs ≡ p.bs →
      ((turn : BusTurn) → follows_node q turn ≡ follows_node p turn) → CountsOn p q
  own_counts : ((turn : BusTurn) → follows_node q turn ≡ false) → CountsOn p q

record ShowAlike (p q : Registers) : Type 0 where
  pub counts : CountsOn p q
  pub rs : q.rs ≡ p.rs
  pub ts : q.ts ≡ p.ts
  pub still : (turn : BusTurn) → stands_still q turn ≡ stands_still p turn

abbrev all_alike : (p : Registers) → ShowAlike p p
all_alike p = record { counts = same_counts refl refl refl (λ t. refl); rs = refl; ts = refl; still = λ t. refl }

read_alike : (x : Option Register) (p : Registers) → ShowAlike p (after_reading_at p x)
read_alike None p = all_alike p
read_alike (Some Interrupt) p =
    record { counts = same_counts refl refl refl (λ t. refl); rs = refl; ts = refl; still = λ t. refl }
read_alike (Some ArbitrationLostCapture) p =
    record { counts = same_counts refl refl refl (λ t. refl); rs = refl; ts = refl; still = λ t. refl }
read_alike (Some ErrorCodeCapture) p =
    record { counts = same_counts refl refl refl (λ t. refl); rs = refl; ts = refl; still = λ t. refl }
read_alike (Some other) p = all_alike p

and_none : (a b : Bool) → b ≡ true → (a && not b) ≡ false
and_none true true e = refl
and_none false true e = refl
and_none a false e = absurd cc

-- once a counter was written none is the node's
unfollowed : (raw same set : Bool) → raw ≡ true → set ≡ true → (not raw || (same && not set)) ≡ false
unfollowed true same set e f = and_none same set f
unfollowed false same set e f = absurd cc

-- a counter is written from version 3 on
written_by_bytes : (raw : Bool) (rest : List (Bool × RegFault)) →
    Done ≡ done_unless (first_fault ((not raw, ReadOnly) ∷ rest)) → raw ≡ true
written_by_bytes true rest h = refl
written_by_bytes false rest h = absurd cc

-- RS and TS stand still in the same turns where RM is the same
kept_still : {rm : Bool} (p : Registers) → rm ≡ p.mode.rm → (turn : BusTurn) →
    (by_bytes p && (rm || not (turn.activation == p.activation))) ≡ stands_still p turn
kept_still p keep turn = ap (λ b. by_bytes p && (b || not (turn.activation == p.activation))) keep

-- a bus-off that is asked for was written to TXERR
unfollowed_asked : (raw same tec rec full : Bool) → (raw && (tec && full)) ≡ true →
    (not raw || (same && not (tec || rec))) ≡ false
unfollowed_asked true same true rec full e = and_none same true refl
unfollowed_asked true same false rec full e = absurd cc
unfollowed_asked false same tec rec full e = absurd cc

asked_of : (rm asks new : Bool) → ((rm && asks) && new) ≡ true → asks ≡ true
asked_of true true new e = refl
asked_of true false new e = absurd cc
asked_of false asks new e = absurd cc

-- MOD was written, which brought a bus-off or didn't
mode_alike : (off : Bool) (m : ModeBits) (p : Registers) → (off ≡ true → asks_off p ≡ true) →
    (let q = if off then after_forced_off (record p { mode = record m { rm = true } }) else record p { mode = m } in
    q.mode.rm ≡ p.mode.rm → ShowAlike p q)
mode_alike true m p asks keep =
    record {
      counts = own_counts (λ t. unfollowed_asked (by_bytes p) (t.activation == p.activation) (is_some p.set_tec) true
          (p.txerr == 255) (asks refl));
      rs = refl;
      ts = refl;
      still = kept_still p keep;
    }
mode_alike false m p asks keep =
    record { counts = same_counts refl refl refl (λ t. refl); rs = refl; ts = refl; still = kept_still p keep }

-- TXERR was written
txerr_alike : (full : Bool) (v : ℕ) (p : Registers) → by_bytes p ≡ true →
    ShowAlike p (if full then record p { txerr = v; set_tec = Some v }
    else record p { txerr = v; rxerr = unwrap_or p.set_rec p.rxerr; bs = false; set_tec = Some v })
txerr_alike true v p raw =
    record {
      counts = own_counts (λ t. unfollowed (by_bytes p) (t.activation == p.activation) true raw refl);
      rs = refl;
      ts = refl;
      still = λ t. refl;
    }
txerr_alike false v p raw =
    record {
      counts = own_counts (λ t. unfollowed (by_bytes p) (t.activation == p.activation) true raw refl);
      rs = refl;
      ts = refl;
      still = λ t. refl;
    }

write_alike : (x : Option Register) (v : ℕ) (p : Registers) →
    Done ≡ done_unless (first_fault (write_faults_at p x v)) → ShowAlike p (after_writing_at p x v)
write_alike None v p h = all_alike p
write_alike (Some Mode) v p h =
    mode_alike (is_forced p && not (mode_of v).rm) (mode_of v) p
    (asked_of p.mode.rm (asks_off p) (not (mode_of v).rm)) (write_rm (Some Mode) v p h)
write_alike (Some InterruptEnable) v p h =
    record { counts = same_counts refl refl refl (λ t. refl); rs = refl; ts = refl; still = λ t. refl }
write_alike (Some ErrorWarningLimit) v p h =
    record { counts = same_counts refl refl refl (λ t. refl); rs = refl; ts = refl; still = λ t. refl }
write_alike (Some ReceiveErrorCounter) v p h =
    record {
      counts = own_counts (λ t. unfollowed (by_bytes p) (t.activation == p.activation) (is_some p.set_tec || true)
          (written_by_bytes (by_bytes p) ((not p.mode.rm, ResetOnly) ∷ []) h) (or-true (is_some p.set_tec)));
      rs = refl;
      ts = refl;
      still = λ t. refl;
    }
write_alike (Some TransmitErrorCounter) v p h =
    txerr_alike (v == 255) v p (written_by_bytes (by_bytes p) ((not p.mode.rm, ResetOnly) ∷ []) h)
write_alike (Some (AcceptanceCode i)) v p h =
    record { counts = same_counts refl refl refl (λ t. refl); rs = refl; ts = refl; still = λ t. refl }
write_alike (Some (AcceptanceMask i)) v p h =
    record { counts = same_counts refl refl refl (λ t. refl); rs = refl; ts = refl; still = λ t. refl }
write_alike (Some (Buffer i)) v p h =
    record { counts = same_counts refl refl refl (λ t. refl); rs = refl; ts = refl; still = λ t. refl }
write_alike (Some other) v p h = all_alike p

step_alike : (p : Registers) (one : Step) (answer : StepAnswer) (active : Bool) (seen : BufferView) →
    Tells one active p seen answer → carried p one answer ≡ [] → ShowAlike p (ported p one answer)
step_alike p Start Done active seen tells none = absurd cc
step_alike p Stop Done active seen tells none = absurd cc
step_alike p (Read address) answer active seen tells none = read_alike (register_at p.mode.rm address) p
step_alike p (Write address value) Done active seen tells none =
    write_alike (register_at p.mode.rm address) value p tells
step_alike p (Load m) Done active seen tells none =
    record { counts = same_counts refl refl refl (λ t. refl); rs = refl; ts = refl; still = λ t. refl }
step_alike p (Command value) Done active seen tells none =
    record { counts = same_counts refl refl refl (λ t. refl); rs = refl; ts = refl; still = λ t. refl }
step_alike p Start other active seen tells none = all_alike p
step_alike p Stop other active seen tells none = all_alike p
step_alike p (Write address value) other active seen tells none = all_alike p
step_alike p (Load m) other active seen tells none = all_alike p
step_alike p (Command value) other active seen tells none = all_alike p
step_alike p Window answer active seen tells none = all_alike p
step_alike p Release answer active seen tells none = all_alike p
step_alike p (Await count) answer active seen tells none = all_alike p
step_alike p Sent answer active seen tells none = all_alike p
step_alike p Interrupt answer active seen tells none = all_alike p
step_alike p (At bits) answer active seen tells none = all_alike p

-- a counter or BS that a turn would leave in p, it leaves in q
rxerr_on : (p q : Registers) (turn : BusTurn) → CountsOn p q → rxerr_after p turn ≡ p.rxerr →
    rxerr_after q turn ≡ q.rxerr
rxerr_on p q turn (same_counts r t b f) h = (λ i. if f turn i then turn.rxerr else r i) ∙ h ∙ sym r
rxerr_on p q turn (own_counts f) h = ap (λ b. if b then turn.rxerr else q.rxerr) (f turn)

txerr_on : (p q : Registers) (turn : BusTurn) → CountsOn p q → txerr_after p turn ≡ p.txerr →
    txerr_after q turn ≡ q.txerr
txerr_on p q turn (same_counts r t b f) h = (λ i. if f turn i then turn.txerr else t i) ∙ h ∙ sym t
txerr_on p q turn (own_counts f) h = ap (λ b. if b then turn.txerr else q.txerr) (f turn)

bs_on : (p q : Registers) (turn : BusTurn) → CountsOn p q → bs_after p turn ≡ p.bs → bs_after q turn ≡ q.bs
bs_on p q turn (same_counts r t b f) h = (λ i. if f turn i then turn.off else b i) ∙ h ∙ sym b
bs_on p q turn (own_counts f) h = ap (λ b. if b then turn.off else q.bs) (f turn)

shows_alike : (j : List Entry) (p q : Registers) → ShowAlike p q → ShowsRecord j p → ShowsRecord j q
shows_alike j p q same h = record {
  rxerr = λ t s. rxerr_on p q t same.counts (h.rxerr t s);
  txerr = λ t s. txerr_on p q t same.counts (h.txerr t s);
  rs = λ t s. (λ i. if same.still t i then same.rs i else rs_told t) ∙ h.rs t s ∙ sym same.rs;
  ts = λ t s. (λ i. if same.still t i then same.ts i else ts_told t) ∙ h.ts t s ∙ sym same.ts;
  bs = λ t s. bs_on p q t same.counts (h.bs t s);
}

-- a step that gives nothing leaves a port that shows the record
pub shows_on : (j : List Entry) (p q : Registers) (one : Step) (answer : StepAnswer) (active : Bool)
    (seen : BufferView) →
    Tells one active p seen answer → carried p one answer ≡ [] → q ≡ ported p one answer → ShowsRecord j p →
    ShowsRecord j q
shows_on j p q one answer active seen tells none left h =
    subst (λ (r : Registers). ShowsRecord j r) (sym left)
    (shows_alike j p (ported p one answer) (step_alike p one answer active seen tells none) h)
