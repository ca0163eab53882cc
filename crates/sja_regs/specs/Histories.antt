-- What stands in a register after several calls, or after a write (SJA1000 data sheet, 6.4.6, 6.4.8 and 6.4.9).
use Rattle.std.specs.Prelude.{◌≢◌, ◌≡◌, ◌||◌, ◌&&◌, ◌+◌, ◌%◌, not, ℕ, Bool, true, false}
use Rattle.std.specs.Prelude.{if◌then◌else◌, Option, Some, None, List, [], ◌∷◌, All}
use Rattle.sja_regs.specs.declared.interrupts.Interrupts.{Interrupts}
use Rattle.sja_regs.specs.declared.register.Register.{Register}
use Rattle.sja_regs.specs.declared.register.Register.TheVariants.{Mode, InterruptEnable, ErrorWarningLimit}
use Rattle.sja_regs.specs.declared.register.Register.TheVariants.{AcceptanceCode, AcceptanceMask}
use Rattle.sja_regs.specs.declared.registers.Registers.{Registers}
use Rattle.sja_regs.specs.declared.mode.Mode.{Mode as ModeBits}
use Rattle.sja_regs.specs.declared.reg_fault.RegFault.{RegFault}
use Rattle.sja_regs.specs.ErrorStates.{causes_between}
use Rattle.sja_regs.specs.Bits.{is_set}
use Rattle.sja_regs.specs.Modes.{mode_of}
use Rattle.sja_regs.specs.Refusals.{first_fault}
use Rattle.sja_regs.specs.Registers.{by_bytes, is_forced, gone_off, error_state_of, error_causes, without_reset}
use Rattle.sja_regs.specs.Writing.{mode_faults}
use Rattle.sja_regs.specs.Interrupting.{no_interrupt}
use Rattle.sja_regs.specs.Commands.{requests}
use Rattle.sja_regs.specs.Turns.{ends, goes_off, lost_in, fault_in, causes}
use Rattle.sja_regs.specs.Calls.{Call, Turn, Read, Write, Give, LeaveReset, EnterReset, after_call}

-- none of these calls reads the register
abbrev pub IsUnread : Register → List Call → Type 0
IsUnread register calls = All (λ (call : Call). call ≢ Read register) calls

-- the call requests no transmission
abbrev pub IsNoRequest : Call → Type 0
IsNoRequest (Give c) = requests c ≡ false
IsNoRequest other = Unit {0}

-- ---- ALC and ECC

-- the first of two that there is
abbrev pub or_else : Option ℕ → Option ℕ → Option ℕ
or_else None other = other
or_else (Some value) other = Some value

-- the place where arbitration was lost in a call: in a turn of the port's activation
abbrev pub lost_by : Registers → Call → Option ℕ
lost_by p (Turn turn) = lost_in p turn
lost_by p other = None

-- the first place where it was lost in these calls
abbrev pub first_lost : Registers → List Call → Option ℕ
first_lost p [] = None
first_lost p (call ∷ calls) = or_else (lost_by p call) (first_lost (after_call p call) calls)

-- the error code of the fault in a call: in a turn of the port's activation
abbrev pub fault_by : Registers → Call → Option ℕ
fault_by p (Turn turn) = fault_in p turn
fault_by p other = None

-- the error code of the first fault in these calls
abbrev pub first_error : Registers → List Call → Option ℕ
first_error p [] = None
first_error p (call ∷ calls) = or_else (fault_by p call) (first_error (after_call p call) calls)

-- ---- IR

-- the interrupts of the first or of the second
abbrev pub either : Interrupts → Interrupts → Interrupts
either a b =
    record {
      ri = a.ri || b.ri;
      ti = a.ti || b.ti;
      ei = a.ei || b.ei;
      doi = a.doi || b.doi;
      wui = a.wui || b.wui;
      epi = a.epi || b.epi;
      ali = a.ali || b.ali;
      bei = a.bei || b.bei;
    }

-- the interrupts of both
abbrev pub both : Interrupts → Interrupts → Interrupts
both a b =
    record {
      ri = a.ri && b.ri;
      ti = a.ti && b.ti;
      ei = a.ei && b.ei;
      doi = a.doi && b.doi;
      wui = a.wui && b.wui;
      epi = a.epi && b.epi;
      ali = a.ali && b.ali;
      bei = a.bei && b.bei;
    }

-- the causes of a call that was done
abbrev pub if_done : Option RegFault → Interrupts → Interrupts
if_done None causes = causes
if_done (Some fault) causes = no_interrupt

-- those of a bus-off that was asked for
abbrev pub mode_causes : Registers → ModeBits → Interrupts
mode_causes p new =
    if is_forced p && not new.rm then causes_between true p.frozen (error_state_of (gone_off p)) else no_interrupt

-- the interrupts that have a cause in a call: in a turn, where EWLR is written in reset mode, where RM 0 asks for a
-- bus-off, and where reset mode is left
abbrev pub causes_by : Registers → Call → Interrupts
causes_by p (Turn turn) = causes p turn
causes_by p (Write ErrorWarningLimit value) =
    if p.mode.rm then error_causes p (record p { ewlr = value }) else no_interrupt
causes_by p (Write Mode value) = if_done (first_fault (mode_faults p (mode_of value))) (mode_causes p (mode_of value))
causes_by p LeaveReset = if p.mode.rm then error_causes p (without_reset p) else no_interrupt
causes_by p other = no_interrupt

-- the interrupts that had a cause in one of these calls while they were enabled
abbrev pub enabled_causes : Registers → List Call → Interrupts
enabled_causes p [] = no_interrupt
enabled_causes p (call ∷ calls) = either (both (causes_by p call) p.enabled) (enabled_causes (after_call p call) calls)

-- the call enters reset mode
abbrev pub enters_reset : Registers → Call → Bool
enters_reset p (Turn turn) = goes_off p turn
enters_reset p EnterReset = true
enters_reset p other = false

-- none of these calls enters reset mode, where that clears interrupts: from version 3 on
abbrev pub KeepPending : Registers → List Call → Type 0
KeepPending p [] = Unit {0}
KeepPending p (call ∷ calls) = ((by_bytes p && enters_reset p call) ≡ false) × KeepPending (after_call p call) calls

-- the call leaves the version below 3, where it sets one
abbrev pub IsEarlier : Call → Type 0
IsEarlier other = Unit {0}

-- ---- TBS

-- the call ends the request or enters reset mode
abbrev pub releases : Registers → Call → Bool
releases p (Turn turn) = ends p turn || goes_off p turn
releases p EnterReset = true
releases p other = false

-- one of these calls does
abbrev pub some_release : Registers → List Call → Bool
some_release p [] = false
some_release p (call ∷ calls) = releases p call || some_release (after_call p call) calls

-- ---- what is written

-- what a register reads as once a value was written to it, where it is one that a driver reads as it was written: but
-- RM, which stays 1 where RM 0 asks for a bus-off
abbrev pub read_back : Registers → Register → ℕ → Option ℕ
read_back p Mode value = Some (if is_forced p && not (is_set value 0) then value % 16 + 1 else value % 16)
read_back p InterruptEnable value = Some value
read_back p ErrorWarningLimit value = Some value
read_back p (AcceptanceCode i) value = Some value
read_back p (AcceptanceMask i) value = Some value
read_back p other value = None
