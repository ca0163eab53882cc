-- The registers that are kept for a driver and have no effect on the bus: BTR0, BTR1, OCR and CDR (SJA1000 data sheet,
-- 6.5.1 to 6.5.4), and RBSA (6.4.17).
use Rattle.std.specs.Prelude.{◌==◌, ◌&&◌, ℕ, Bool, if◌then◌else◌}
use Rattle.sja_steps.specs.declared.step_answer.StepAnswer.{StepAnswer}
use Rattle.sja_steps.specs.declared.step_answer.StepAnswer.TheVariants.{Released}
use Rattle.sja_driver.specs.declared.unmodelled_registers.UnmodelledRegisters.{UnmodelledRegisters}
use Rattle.sja_driver.specs.ClockDivider.{divider_after}
use Rattle.sja_driver.specs.StartAddress.{start_written, start_after}

-- after power-on: RBSA is 0 (6.4.2, reset values). That CDR.7 is 1, since the mode is always PeliCAN, and that all else
-- is 0, is this project's own rule
abbrev pub at_power_on : UnmodelledRegisters
at_power_on = record { btr0 = 0; btr1 = 0; ocr = 0; rbsa = 0; cdr = 128 }

-- what an address reads as at which none of the port's registers can be read: the kept one that stands there (6.4.1),
-- and 0 where none does (this project's own rule)
abbrev pub kept_at : UnmodelledRegisters → ℕ → ℕ
kept_at kept address =
    if address == 6 then kept.btr0
    else if address == 7 then kept.btr1
    else if address == 8 then kept.ocr
    else if address == 30 then kept.rbsa
    else if address == 31 then kept.cdr else 0

-- the value, where this address is written in reset mode; else what stood there
abbrev pub in_reset_at : Bool → ℕ → ℕ → ℕ → ℕ → ℕ
in_reset_at reset place address value was = if reset && (address == place) then value else was

-- what a write leaves of them: BTR0, BTR1, OCR and RBSA can be written in reset mode alone
abbrev pub kept_after : UnmodelledRegisters → Bool → ℕ → ℕ → UnmodelledRegisters
kept_after kept reset address value =
    record {
      btr0 = in_reset_at reset 6 address value kept.btr0;
      btr1 = in_reset_at reset 7 address value kept.btr1;
      ocr = in_reset_at reset 8 address value kept.ocr;
      rbsa = in_reset_at reset 30 address (start_written value) kept.rbsa;
      cdr = if address == 31 then divider_after kept.cdr reset value else kept.cdr;
    }

-- what a step that was answered leaves of them
abbrev pub moved_by_answer : UnmodelledRegisters → StepAnswer → UnmodelledRegisters
moved_by_answer kept (Released length) = record kept { rbsa = start_after kept.rbsa length }
moved_by_answer kept other = kept
