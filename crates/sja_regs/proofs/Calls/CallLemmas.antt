-- What each call does to the capture registers, to IR and to TBS.
use Rattle.std.proofs.Common.{◌≡◌, ◌≢◌, ◌||◌, ◌&&◌, not, ℕ, Bool, true, false}
use Rattle.std.proofs.Common.{if◌then◌else◌, Option, Some, None, [], ◌∷◌, refl, ap, ◌∙◌}
use Rattle.std.specs.Prelude.{◌==◌, unwrap_or, nat_le}
use Rattle.sja_regs.specs.declared.interrupts.Interrupts.{Interrupts}
use Rattle.sja_regs.specs.declared.register.Register.{Register}
use Rattle.sja_regs.specs.declared.register.Register.TheVariants.{Mode, Command, Status, Interrupt, InterruptEnable}
use Rattle.sja_regs.specs.declared.register.Register.TheVariants.{ArbitrationLostCapture, ErrorCodeCapture}
use Rattle.sja_regs.specs.declared.register.Register.TheVariants.{ErrorWarningLimit, ReceiveErrorCounter}
use Rattle.sja_regs.specs.declared.register.Register.TheVariants.{TransmitErrorCounter, AcceptanceCode}
use Rattle.sja_regs.specs.declared.register.Register.TheVariants.{AcceptanceMask, Buffer, ReceiveMessageCounter}
use Rattle.sja_regs.specs.declared.reg_fault.RegFault.{RegFault}
use Rattle.sja_regs.specs.declared.reg_fault.RegFault.TheVariants.{ResetOnly}
use Rattle.sja_regs.specs.declared.registers.Registers.{Registers}
use Rattle.sja_regs.specs.ErrorStates.{causes_between}
use Rattle.sja_regs.specs.Modes.{mode_of}
use Rattle.sja_regs.specs.Registers.{by_bytes, error_state_of, error_causes, without_reset, after_leaving_reset}
use Rattle.sja_regs.specs.Registers.{is_forced, gone_off}
use Rattle.sja_regs.specs.Turns.{goes_off, causes}
use Rattle.sja_regs.specs.Interrupting.{no_interrupt, pending_after}
use Rattle.sja_regs.specs.Captures.{after_capture}
use Rattle.sja_regs.specs.Refusals.{first_fault}
use Rattle.sja_regs.specs.Reading.{after_reading}
use Rattle.sja_regs.specs.Writing.{mode_faults, after_forced_off, write_faults, after_writing}
use Rattle.sja_regs.specs.Writing.{load_faults, after_loading}
use Rattle.sja_regs.specs.Commands.{requests, command_faults, after_command}
use Rattle.sja_regs.specs.Calls.{Call, Turn, Read, Write, Load, Give, LeaveReset}
use Rattle.sja_regs.specs.Calls.{EnterReset, Close, Finish, unless_refused, after_call}
use Rattle.sja_regs.specs.Histories.{IsNoRequest, lost_by, fault_by, either, both, if_done, causes_by, enters_reset}
use Rattle.sja_regs.specs.Histories.{IsEarlier, releases}
use Rattle.sja_regs.proofs.Calls.KeepLemmas.{read_keeps, write_keeps, leaving_keeps}

-- a refused call keeps what a call keeps that is done
unless_keeps : {A : Type 0} (f : Registers → A) (fault : Option RegFault) (p q : Registers) → f q ≡ f p →
    f (unless_refused fault p q) ≡ f p
unless_keeps f None p q h = h
unless_keeps f (Some fault) p q h = refl

-- a look at another register keeps ALC, ECC and IR
unread_alc : (p : Registers) (register : Register) → register ≢ ArbitrationLostCapture →
    (after_reading p register).alc ≡ p.alc
unread_alc p ArbitrationLostCapture h = absurd (h refl)
unread_alc p Interrupt h = refl
unread_alc p ErrorCodeCapture h = refl
unread_alc p other h = refl

unread_ecc : (p : Registers) (register : Register) → register ≢ ErrorCodeCapture →
    (after_reading p register).ecc ≡ p.ecc
unread_ecc p ErrorCodeCapture h = absurd (h refl)
unread_ecc p Interrupt h = refl
unread_ecc p ArbitrationLostCapture h = refl
unread_ecc p other h = refl

unread_pending : (p : Registers) (register : Register) → register ≢ Interrupt →
    (after_reading p register).pending ≡ p.pending
unread_pending p Interrupt h = absurd (h refl)
unread_pending p ArbitrationLostCapture h = refl
unread_pending p ErrorCodeCapture h = refl
unread_pending p other h = refl

-- ALC takes the place where arbitration was lost
pub alc_by : (p : Registers) (call : Call) → call ≢ Read ArbitrationLostCapture →
    (after_call p call).alc ≡ after_capture p.alc (lost_by p call)
alc_by p (Turn turn) h = refl
alc_by p (Read register) h = unread_alc p register (λ e. h (ap Read e))
alc_by p (Write register value) h =
    unless_keeps (λ q. q.alc) (first_fault (write_faults p register value)) p (after_writing p register value)
    (write_keeps (λ q. q.alc) (λ q s i. refl) (Some register) value p)
alc_by p (Load m) h = unless_keeps (λ q. q.alc) (first_fault (load_faults p)) p (after_loading p m) refl
alc_by p (Give c) h = unless_keeps (λ q. q.alc) (first_fault (command_faults p c)) p (after_command p c) refl
alc_by p LeaveReset h = leaving_keeps (λ q. q.alc) p.mode.rm p (after_leaving_reset p) refl
alc_by p EnterReset h = refl
alc_by p Close h = refl
alc_by p Finish h = refl

-- ECC takes the error code of the fault
pub ecc_by : (p : Registers) (call : Call) → call ≢ Read ErrorCodeCapture →
    (after_call p call).ecc ≡ after_capture p.ecc (fault_by p call)
ecc_by p (Turn turn) h = refl
ecc_by p (Read register) h = unread_ecc p register (λ e. h (ap Read e))
ecc_by p (Write register value) h =
    unless_keeps (λ q. q.ecc) (first_fault (write_faults p register value)) p (after_writing p register value)
    (write_keeps (λ q. q.ecc) (λ q s i. refl) (Some register) value p)
ecc_by p (Load m) h = unless_keeps (λ q. q.ecc) (first_fault (load_faults p)) p (after_loading p m) refl
ecc_by p (Give c) h = unless_keeps (λ q. q.ecc) (first_fault (command_faults p c)) p (after_command p c) refl
ecc_by p LeaveReset h = leaving_keeps (λ q. q.ecc) p.mode.rm p (after_leaving_reset p) refl
ecc_by p EnterReset h = refl
ecc_by p Close h = refl
ecc_by p Finish h = refl

-- EWLR is written in reset mode alone
limited : (rm : Bool) (p q : Registers) (causes : Interrupts) → q.pending ≡ either (both causes p.enabled) p.pending →
    (unless_refused (first_fault ((not rm, ResetOnly) ∷ [])) p q).pending
    ≡ either (both (if rm then causes else no_interrupt) p.enabled) p.pending
limited true p q causes h = h
limited false p q causes h = refl

-- the interrupts that a write has for a cause
written : (p : Registers) (register : Register) (value : ℕ) →
    (after_call p (Write register value)).pending
    ≡ either (both (causes_by p (Write register value)) p.enabled) p.pending
written p Mode value =
    mode_pending (first_fault (mode_faults p (mode_of value))) (is_forced p && not (mode_of value).rm)
  where
    mode_pending : (fault : Option RegFault) (test : Bool) → (unless_refused fault p (if test
        then after_forced_off (record p { mode = record (mode_of value) { rm = true } })
        else record p { mode = mode_of value })).pending
        ≡ either (both (if_done fault (if test then causes_between true p.frozen (error_state_of (gone_off p))
        else no_interrupt)) p.enabled) p.pending
    mode_pending None true = refl
    mode_pending None false = refl
    mode_pending (Some fault) test = refl
written p Command value = refl
written p Status value = refl
written p Interrupt value = refl
written p InterruptEnable value = refl
written p ArbitrationLostCapture value = refl
written p ErrorCodeCapture value = refl
written p ErrorWarningLimit value =
    limited p.mode.rm p (after_writing p ErrorWarningLimit value) (error_causes p (record p { ewlr = value })) refl
written p ReceiveErrorCounter value =
    unless_keeps (λ q. q.pending) (first_fault (write_faults p ReceiveErrorCounter value)) p
    (after_writing p ReceiveErrorCounter value) refl
written p TransmitErrorCounter value =
    unless_keeps (λ q. q.pending) (first_fault (write_faults p TransmitErrorCounter value)) p
    (after_writing p TransmitErrorCounter value) (txerr_pending (value == 255))
  where
    txerr_pending : (test : Bool) → (if test then record p { txerr = value; set_tec = Some value } else
        record p { txerr = value; rxerr = unwrap_or p.set_rec p.rxerr; bs = false; set_tec = Some value }).pending
        ≡ p.pending
    txerr_pending true = refl
    txerr_pending false = refl
written p (AcceptanceCode i) value = refl
written p (AcceptanceMask i) value = refl
written p (Buffer i) value =
    unless_keeps (λ q. q.pending) (first_fault (write_faults p (Buffer i) value)) p (after_writing p (Buffer i) value)
    refl
written p ReceiveMessageCounter value = refl

-- reset mode is left, or the port isn't in it
left_pending : (rm : Bool) (p q : Registers) (causes : Interrupts) →
    q.pending ≡ either (both causes p.enabled) p.pending →
    (if rm then q else p).pending ≡ either (both (if rm then causes else no_interrupt) p.enabled) p.pending
left_pending true p q causes h = h
left_pending false p q causes h = refl

-- what is pending stays, where reset mode isn't entered or doesn't clear it
stays_pending : (by_bytes enters : Bool) (pending : Interrupts) → (by_bytes && enters) ≡ false →
    (if enters then (if by_bytes then record no_interrupt { ei = pending.ei } else pending) else pending) ≡ pending
stays_pending true true pending h = absurd cc
stays_pending true false pending h = refl
stays_pending false true pending h = refl
stays_pending false false pending h = refl

-- IR takes the interrupts that have a cause and are enabled
pub pending_by : (p : Registers) (call : Call) → call ≢ Read Interrupt → (by_bytes p && enters_reset p call) ≡ false →
    (after_call p call).pending ≡ either (both (causes_by p call) p.enabled) p.pending
pending_by p (Turn turn) h keeps =
    stays_pending (by_bytes p) (goes_off p turn) (pending_after p.pending p.enabled (causes p turn)) keeps
pending_by p (Read register) h keeps = unread_pending p register (λ e. h (ap Read e))
pending_by p (Write register value) h keeps = written p register value
pending_by p (Load m) h keeps = unless_keeps (λ q. q.pending) (first_fault (load_faults p)) p (after_loading p m) refl
pending_by p (Give c) h keeps =
    unless_keeps (λ q. q.pending) (first_fault (command_faults p c)) p (after_command p c) refl
pending_by p LeaveReset h keeps =
    left_pending p.mode.rm p (after_leaving_reset p) (error_causes p (without_reset p)) refl
pending_by p EnterReset h keeps = stays_pending (by_bytes p) true p.pending keeps
pending_by p Close h keeps = refl
pending_by p Finish h keeps = refl

-- the version stays below 3
pub earlier_by : (p : Registers) (call : Call) → IsEarlier call → by_bytes p ≡ false →
    by_bytes (after_call p call) ≡ false
earlier_by p (Turn turn) is by_bytes = by_bytes
earlier_by p (Read register) is by_bytes =
    ap (nat_le 3) (read_keeps (λ q. q.version) (λ q i a c. refl) (Some register) p) ∙ by_bytes
earlier_by p (Write register value) is by_bytes =
    ap (nat_le 3) (unless_keeps (λ q. q.version) (first_fault (write_faults p register value)) p
    (after_writing p register value) (write_keeps (λ q. q.version) (λ q s i. refl) (Some register) value p)) ∙ by_bytes
earlier_by p (Load m) is by_bytes =
    ap (nat_le 3) (unless_keeps (λ q. q.version) (first_fault (load_faults p)) p (after_loading p m) refl) ∙ by_bytes
earlier_by p (Give c) is by_bytes =
    ap (nat_le 3) (unless_keeps (λ q. q.version) (first_fault (command_faults p c)) p (after_command p c) refl)
    ∙ by_bytes
earlier_by p LeaveReset is by_bytes =
    ap (nat_le 3) (leaving_keeps (λ q. q.version) p.mode.rm p (after_leaving_reset p) refl) ∙ by_bytes
earlier_by p EnterReset is by_bytes = by_bytes
earlier_by p Close is by_bytes = by_bytes
earlier_by p Finish is by_bytes = by_bytes

-- a bit stays where no request is made
stays : (b request : Bool) → request ≡ false → (b && not request) ≡ b
stays true false h = refl
stays false false h = refl
stays b true h = absurd cc

-- TBS is 1 where the call releases the transmit buffer
pub tbs_by : (p : Registers) (call : Call) → IsNoRequest call → (after_call p call).tbs ≡ (releases p call || p.tbs)
tbs_by p (Turn turn) h = refl
tbs_by p (Read register) h = read_keeps (λ q. q.tbs) (λ q i a c. refl) (Some register) p
tbs_by p (Write register value) h =
    unless_keeps (λ q. q.tbs) (first_fault (write_faults p register value)) p (after_writing p register value)
    (write_keeps (λ q. q.tbs) (λ q s i. refl) (Some register) value p)
tbs_by p (Load m) h = unless_keeps (λ q. q.tbs) (first_fault (load_faults p)) p (after_loading p m) refl
tbs_by p (Give c) h =
    unless_keeps (λ q. q.tbs) (first_fault (command_faults p c)) p (after_command p c) (stays p.tbs (requests c) h)
tbs_by p LeaveReset h = leaving_keeps (λ q. q.tbs) p.mode.rm p (after_leaving_reset p) refl
tbs_by p EnterReset h = refl
tbs_by p Close h = refl
tbs_by p Finish h = refl
