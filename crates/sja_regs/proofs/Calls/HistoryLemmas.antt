-- What stands in a register after several calls.
use Rattle.std.proofs.Common.{◌≡◌, ◌≢◌, ◌||◌, ◌&&◌, ◌∙◌, ℕ, Bool, true, false}
use Rattle.std.proofs.Common.{Option, Some, None, List, [], ◌∷◌, refl, ap, All}
use Rattle.std.proofs.lemmas.List.Elements.{All-head, All-tail}
use Rattle.sja_regs.specs.declared.capture.Capture.{Capture}
use Rattle.sja_regs.specs.declared.interrupts.Interrupts.{Interrupts}
use Rattle.sja_regs.specs.declared.register.Register.{Register}
use Rattle.sja_regs.specs.declared.register.Register.TheVariants.{Interrupt, ArbitrationLostCapture, ErrorCodeCapture}
use Rattle.sja_regs.specs.declared.registers.Registers.{Registers}
use Rattle.sja_regs.specs.Captures.{after_capture}
use Rattle.sja_regs.specs.Calls.{Call, Read, after_call, after_calls}
use Rattle.sja_regs.specs.Histories.{IsUnread, IsNoRequest, or_else, lost_by, first_lost, fault_by, first_error}
use Rattle.sja_regs.specs.Histories.{either, both, causes_by, enabled_causes, enters_reset, KeepPending, IsEarlier}
use Rattle.sja_regs.specs.Histories.{releases, some_release}
use Rattle.sja_regs.specs.Registers.{by_bytes}
use Rattle.sja_regs.proofs.Calls.CallLemmas.{alc_by, ecc_by, pending_by, earlier_by, tbs_by}

-- the first call, and those after it
first_unread : (register : Register) (call : Call) (calls : List Call) → IsUnread register (call ∷ calls) →
    call ≢ Read register
first_unread register call calls h = All-head (λ (c : Call). c ≢ Read register) call calls h

rest_unread : (register : Register) (call : Call) (calls : List Call) → IsUnread register (call ∷ calls) →
    IsUnread register calls
rest_unread register call calls h = All-tail (λ (c : Call). c ≢ Read register) call calls h

-- after a capture there is none until the register is read
shut : (was_read : Bool) (x v w : ℕ) →
    after_capture (after_capture (record { value = x; was_read = was_read }) (Some v)) (Some w)
    ≡ after_capture (record { value = x; was_read = was_read }) (Some v)
shut true x v w = refl
shut false x v w = refl

-- of two captures the first counts
captured_once : (c : Capture) (v w : Option ℕ) → after_capture (after_capture c v) w ≡ after_capture c (or_else v w)
captured_once c None w = refl
captured_once c (Some v) None = refl
captured_once c (Some v) (Some w) = shut c.was_read c.value v w

pub alc_keeps_first : (p : Registers) (calls : List Call) → IsUnread ArbitrationLostCapture calls →
    (after_calls p calls).alc ≡ after_capture p.alc (first_lost p calls)
alc_keeps_first p [] h = refl
alc_keeps_first p (call ∷ calls) h =
    let next = after_call p call in
    alc_keeps_first next calls (rest_unread ArbitrationLostCapture call calls h)
    ∙ ap (λ c. after_capture c (first_lost next calls))
    (alc_by p call (first_unread ArbitrationLostCapture call calls h))
    ∙ captured_once p.alc (lost_by p call) (first_lost next calls)

pub ecc_keeps_first : (p : Registers) (calls : List Call) → IsUnread ErrorCodeCapture calls →
    (after_calls p calls).ecc ≡ after_capture p.ecc (first_error p calls)
ecc_keeps_first p [] h = refl
ecc_keeps_first p (call ∷ calls) h =
    let next = after_call p call in
    ecc_keeps_first next calls (rest_unread ErrorCodeCapture call calls h)
    ∙ ap (λ c. after_capture c (first_error next calls)) (ecc_by p call (first_unread ErrorCodeCapture call calls h))
    ∙ captured_once p.ecc (fault_by p call) (first_error next calls)

-- three bits in another order
turned : (later now before : Bool) → (later || (now || before)) ≡ ((now || later) || before)
turned true true before = refl
turned true false before = refl
turned false true before = refl
turned false false before = refl

-- all bits of an interrupt register
all_turned : (later now before : Interrupts) → either later (either now before) ≡ either (either now later) before
all_turned l n b =
    rw (
      turned l.ri n.ri b.ri,
      turned l.ti n.ti b.ti,
      turned l.ei n.ei b.ei,
      turned l.doi n.doi b.doi,
      turned l.wui n.wui b.wui,
      turned l.epi n.epi b.epi,
      turned l.ali n.ali b.ali,
      turned l.bei n.bei b.bei,
    )
    refl

pub pending_latched : (p : Registers) (calls : List Call) → IsUnread Interrupt calls → KeepPending p calls →
    (after_calls p calls).pending ≡ either (enabled_causes p calls) p.pending
pending_latched p [] h keep = refl
pending_latched p (call ∷ calls) h keep =
    let next = after_call p call in
    pending_latched next calls (rest_unread Interrupt call calls h) keep.1
    ∙ ap (either (enabled_causes next calls)) (pending_by p call (first_unread Interrupt call calls h) keep.0)
    ∙ all_turned (enabled_causes next calls) (both (causes_by p call) p.enabled) p.pending

-- before version 3 no call clears what is pending
pub keep_pending : (p : Registers) (calls : List Call) → by_bytes p ≡ false → All IsEarlier calls → KeepPending p calls
keep_pending p [] by_bytes h = record {}
keep_pending p (call ∷ calls) by_bytes h = (
  ap (λ r. r && enters_reset p call) by_bytes,
  keep_pending (after_call p call) calls (earlier_by p call (All-head IsEarlier call calls h) by_bytes)
      (All-tail IsEarlier call calls h),
)

pub tbs_waits : (p : Registers) (calls : List Call) → All IsNoRequest calls →
    (after_calls p calls).tbs ≡ (some_release p calls || p.tbs)
tbs_waits p [] h = refl
tbs_waits p (call ∷ calls) h =
    let next = after_call p call in
    tbs_waits next calls (All-tail IsNoRequest call calls h)
    ∙ ap (λ b. some_release next calls || b) (tbs_by p call (All-head IsNoRequest call calls h))
    ∙ turned (some_release next calls) (releases p call) p.tbs
