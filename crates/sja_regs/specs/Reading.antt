-- What a driver reads (SJA1000 data sheet, 6.4.3 to 6.4.16).
use Rattle.std.specs.Prelude.{ℕ, Option, Some, None, Result, Ok, Err, List, slice_get, slice_index, unwrap_or}
use Rattle.sja_regs.specs.declared.register.Register.{Register}
use Rattle.sja_regs.specs.declared.register.Register.TheVariants.{Mode, Command, Status, Interrupt, InterruptEnable}
use Rattle.sja_regs.specs.declared.register.Register.TheVariants.{ArbitrationLostCapture, ErrorCodeCapture}
use Rattle.sja_regs.specs.declared.register.Register.TheVariants.{ErrorWarningLimit, ReceiveErrorCounter}
use Rattle.sja_regs.specs.declared.register.Register.TheVariants.{TransmitErrorCounter, AcceptanceCode}
use Rattle.sja_regs.specs.declared.register.Register.TheVariants.{AcceptanceMask, Buffer, ReceiveMessageCounter}
use Rattle.sja_regs.specs.declared.reg_fault.RegFault.{RegFault}
use Rattle.sja_regs.specs.declared.reg_fault.RegFault.TheVariants.{NoRegister}
use Rattle.sja_regs.specs.declared.registers.Registers.{Registers}
use Rattle.can_frame.specs.declared.buffer_view.BufferView.{BufferView}
use Rattle.sja_regs.specs.Registers.{status_of, interrupts_in}
use Rattle.sja_regs.specs.Modes.{mode_byte}
use Rattle.sja_regs.specs.Statuses.{status_byte}
use Rattle.sja_regs.specs.Interrupting.{interrupts_byte, no_interrupt}
use Rattle.sja_regs.specs.Captures.{after_look}

-- the receive buffer (6.4.14): a byte of the first message, and 0 past its end or where there is none (this project's
-- own rule)
abbrev pub received_byte : Option (List ℕ) → ℕ → ℕ
received_byte None i = 0
received_byte (Some message) i = unwrap_or (slice_get message i) 0

-- what each register reads as; the command register can't be read
abbrev pub value_of : Registers → BufferView → Register → Option ℕ
value_of p seen Mode = Some (mode_byte p.mode)
value_of p seen Command = None
value_of p seen Status = Some (status_byte (status_of p seen))
value_of p seen Interrupt = Some (interrupts_byte (interrupts_in p seen))
value_of p seen InterruptEnable = Some (interrupts_byte p.enabled)
value_of p seen ArbitrationLostCapture = Some p.alc.value
value_of p seen ErrorCodeCapture = Some p.ecc.value
value_of p seen ErrorWarningLimit = Some p.ewlr
value_of p seen ReceiveErrorCounter = Some p.rxerr
value_of p seen TransmitErrorCounter = Some p.txerr
value_of p seen (AcceptanceCode i) = Some (slice_index p.acr i)
value_of p seen (AcceptanceMask i) = Some (slice_index p.amr i)
value_of p seen (Buffer i) = Some (received_byte seen.first i)
value_of p seen ReceiveMessageCounter = Some seen.count

-- what reading a register leaves: IR is cleared but for RI, which follows from RBS; ALC and ECC may capture again
abbrev pub after_reading : Registers → Register → Registers
after_reading p Interrupt = record p { pending = no_interrupt }
after_reading p ArbitrationLostCapture = record p { alc = after_look p.alc }
after_reading p ErrorCodeCapture = record p { ecc = after_look p.ecc }
after_reading p other = p

-- what an address reads as, by the register that stands there, if one does
abbrev pub value_at : Registers → BufferView → Option Register → Option ℕ
value_at p seen None = None
value_at p seen (Some register) = value_of p seen register

-- what reading an address leaves
abbrev pub after_reading_at : Registers → Option Register → Registers
after_reading_at p None = p
after_reading_at p (Some register) = after_reading p register

-- the value that there is, or the refusal
abbrev pub or_no_register : Option ℕ → Result ℕ RegFault
or_no_register None = Err NoRegister
or_no_register (Some value) = Ok value
