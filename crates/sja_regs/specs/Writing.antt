-- What a driver writes (SJA1000 data sheet, 6.4.3, 6.4.7, 6.4.10 to 6.4.13 and 6.4.15). RXERR and TXERR are taken from
-- version 3 on alone.
use Rattle.std.specs.Prelude.{◌≡◌, ◌==◌, ◌||◌, ◌&&◌, not, ℕ, Bool, true, false, Option, Some, None, List, [], ◌∷◌}
use Rattle.std.specs.Prelude.{if◌then◌else◌, slice_set, unwrap_or}
use Rattle.can_frame.specs.Message.{message}
use Rattle.can_frame.specs.Buffer.{frame_in, buffer_of}
use Rattle.sja_regs.specs.declared.mode.Mode.{Mode as ModeBits}
use Rattle.sja_regs.specs.declared.register.Register.{Register}
use Rattle.sja_regs.specs.declared.register.Register.TheVariants.{Mode, Command, InterruptEnable, ErrorWarningLimit}
use Rattle.sja_regs.specs.declared.register.Register.TheVariants.{ReceiveErrorCounter, TransmitErrorCounter}
use Rattle.sja_regs.specs.declared.register.Register.TheVariants.{AcceptanceCode, AcceptanceMask, Buffer}
use Rattle.sja_regs.specs.declared.reg_fault.RegFault.{RegFault}
use Rattle.sja_regs.specs.declared.reg_fault.RegFault.TheVariants.{NoRegister, ReadOnly, ResetOnly, Locked}
use Rattle.sja_regs.specs.declared.reg_fault.RegFault.TheVariants.{UseTyped, NotInVersion, ActiveOnly}
use Rattle.sja_regs.specs.declared.registers.Registers.{Registers}
use Rattle.sja_regs.specs.Bits.{differ}
use Rattle.sja_regs.specs.ErrorStates.{causes_between}
use Rattle.sja_regs.specs.Registers.{by_bytes, is_forced, gone_off, error_state_of, error_causes}
use Rattle.sja_regs.specs.Modes.{mode_of}
use Rattle.sja_regs.specs.Interrupting.{interrupts_of, pending_after}

-- the first version of the model, which has no LOM, no STM and no SRR; every other one has them
abbrev pub is_first_version : Registers → Bool
is_first_version p = p.version == 1

-- bits 1 to 3 of two modes differ
abbrev pub is_other_mode : ModeBits → ModeBits → Bool
is_other_mode m new = differ m.lom new.lom || differ m.stm new.stm || differ m.afm new.afm

-- why a mode isn't written: RM is written by calls of its own, but where RM 0 asks for a bus-off; version 1 has neither
-- LOM nor STM; and bits 1 to 3 change in reset mode alone (6.4.3)
abbrev pub mode_faults : Registers → ModeBits → List (Bool × RegFault)
mode_faults p new =
    (differ p.mode.rm new.rm && not (is_forced p), UseTyped)
    ∷ (is_first_version p && (new.lom || new.stm), NotInVersion)
    ∷ (not p.mode.rm && is_other_mode p.mode new, ResetOnly)
    ∷ []

-- why a register isn't written
abbrev pub write_faults : Registers → Register → ℕ → List (Bool × RegFault)
write_faults p Mode value = mode_faults p (mode_of value)
write_faults p Command value = (true, UseTyped) ∷ []
write_faults p InterruptEnable value = []
write_faults p ErrorWarningLimit value = (not p.mode.rm, ResetOnly) ∷ []
write_faults p ReceiveErrorCounter value = (not (by_bytes p), ReadOnly) ∷ (not p.mode.rm, ResetOnly) ∷ []
write_faults p TransmitErrorCounter value = (not (by_bytes p), ReadOnly) ∷ (not p.mode.rm, ResetOnly) ∷ []
write_faults p (AcceptanceCode i) value = []
write_faults p (AcceptanceMask i) value = []
write_faults p (Buffer i) value = (not p.tbs, Locked) ∷ []
write_faults p other value = (true, ReadOnly) ∷ []

-- why an address isn't written, by the register that stands there, if one does
abbrev pub write_faults_at : Registers → Option Register → ℕ → List (Bool × RegFault)
write_faults_at p None value = (true, NoRegister) ∷ []
write_faults_at p (Some register) value = write_faults p register value

-- EWLR is written (6.4.10): ES may change, and EI with it, from version 3 on as reset mode is left, in the others at
-- once (this project's own rule)
abbrev pub with_warning_limit : Registers → ℕ → Registers
with_warning_limit p value =
    let new = record p { ewlr = value } in
    record new { pending = pending_after p.pending p.enabled (error_causes p new) }

-- RXERR is written: while bus-off stands it doesn't show, but is kept for a write of TXERR that ends it. By the data
-- sheet (6.4.11) such a write has no effect; that it has is this project's own rule
abbrev pub with_rxerr : Registers → ℕ → Registers
with_rxerr p value = record p { rxerr = if p.bs then p.rxerr else value; set_rec = Some value }

-- TXERR is written (6.4.12): each value but 255 ends bus-off
abbrev pub with_txerr : Registers → ℕ → Registers
with_txerr p value =
    if value == 255 then record p { txerr = value; set_tec = Some value }
    else record p { txerr = value; rxerr = unwrap_or p.set_rec p.rxerr; bs = false; set_tec = Some value }

-- the bus-off that was asked for comes in place of leaving reset mode, as by an error on the bus (6.4.12): EI alone,
-- and the next start waits for its end. RXERR is 0 with it, whatever was written there before, and so is what the next
-- start takes, where TXERR ends that bus-off
abbrev pub after_forced_off : Registers → Registers
after_forced_off p =
    record (gone_off p) {
      set_rec = Some 0;
      pending = pending_after p.pending p.enabled (causes_between true p.frozen (error_state_of (gone_off p)));
      frozen = error_state_of (gone_off p);
    }

-- MOD is written (6.4.3)
abbrev pub with_mode : Registers → ModeBits → Registers
with_mode p new =
    if is_forced p && not new.rm then after_forced_off (record p { mode = record new { rm = true } })
    else record p { mode = new }

-- what a write that isn't refused leaves
abbrev pub after_writing : Registers → Register → ℕ → Registers
after_writing p Mode value = with_mode p (mode_of value)
after_writing p InterruptEnable value = record p { enabled = interrupts_of value }
after_writing p ErrorWarningLimit value = with_warning_limit p value
after_writing p ReceiveErrorCounter value = with_rxerr p value
after_writing p TransmitErrorCounter value = with_txerr p value
after_writing p (AcceptanceCode i) value = record p { acr = slice_set p.acr i value }
after_writing p (AcceptanceMask i) value = record p { amr = slice_set p.amr i value }
after_writing p (Buffer i) value = record p { buffer = slice_set p.buffer i value }
after_writing p other value = p

-- what a write to an address leaves
abbrev pub after_writing_at : Registers → Option Register → ℕ → Registers
after_writing_at p None value = p
after_writing_at p (Some register) value = after_writing p register value

-- why a message isn't loaded into the transmit buffer
abbrev pub load_faults : Registers → List (Bool × RegFault)
load_faults p = (p.mode.rm, ActiveOnly) ∷ (not p.tbs, Locked) ∷ []

-- the transmit buffer (6.4.13) has the message at its beginning, and 0 after it
abbrev pub after_loading : Registers → List ℕ → Registers
after_loading p m = record p { buffer = buffer_of m }

-- the frame in the transmit buffer is the one with this message
abbrev pub Carries : Registers → List ℕ → Type 0
Carries p m = message (frame_in p.buffer) ≡ m
