use Rattle.std.proofs.Common.{rules, arith, ◌≡◌, ◌<◌, ◌+◌, ◌%◌, ◌&&◌, not, ℕ, Bool, true, false, Some, if◌then◌else◌}
use Rattle.std.proofs.Common.{refl, ap, ◌∙◌}
use Rattle.sja_regs.specs.Addresses.{IsPlace}
use Rattle.sja_regs.specs.Facts.{RegisterFacts}
use Rattle.sja_regs.specs.Histories.{read_back}
use Rattle.std.specs.Prelude.{◌==◌, ◌/◌, ◌^◌}
use Rattle.can_frame.specs.Message.{bit}
use Rattle.can_frame.specs.declared.buffer_view.BufferView.{BufferView}
use Rattle.sja_regs.specs.declared.register.Register.{Register}
use Rattle.sja_regs.specs.declared.register.Register.TheVariants.{Mode, Command, Status, Interrupt, InterruptEnable}
use Rattle.sja_regs.specs.declared.register.Register.TheVariants.{ArbitrationLostCapture, ErrorCodeCapture}
use Rattle.sja_regs.specs.declared.register.Register.TheVariants.{ErrorWarningLimit, ReceiveErrorCounter}
use Rattle.sja_regs.specs.declared.register.Register.TheVariants.{TransmitErrorCounter, AcceptanceCode}
use Rattle.sja_regs.specs.declared.register.Register.TheVariants.{AcceptanceMask, Buffer, ReceiveMessageCounter}
use Rattle.sja_regs.specs.declared.registers.Registers.{Registers}
use Rattle.sja_regs.specs.Bits.{is_set}
use Rattle.sja_regs.specs.Interrupting.{interrupts_of, interrupts_byte}
use Rattle.sja_regs.specs.Modes.{mode_of, mode_byte}
use Rattle.sja_regs.specs.Reading.{value_of}
use Rattle.sja_regs.specs.Registers.{is_forced}
use Rattle.sja_regs.specs.Writing.{after_forced_off, after_writing}
use Rattle.sja_regs.proofs.laws.what_is_written_is_read_back.Goals as goal

byte_back : (value : ℕ) → value < 256 → mode_byte (mode_of value) ≡ value % 16
byte_back value few = search rules

forced_back : (value : ℕ) → value < 256 → is_set value 0 ≡ false →
    mode_byte (record (mode_of value) { rm = true }) ≡ value % 16 + 1
forced_back value few clear = search rules

digit_back : (n : ℕ) → bit (n % 2 == 1) ≡ n % 2
digit_back n = grind arith

enable_back : (value : ℕ) → value < 256 → interrupts_byte (interrupts_of value) ≡ value
enable_back value few =
    rw (
      digit_back (value / 2 ^ 0),
      digit_back (value / 2 ^ 1),
      digit_back (value / 2 ^ 2),
      digit_back (value / 2 ^ 3),
      digit_back (value / 2 ^ 4),
      digit_back (value / 2 ^ 5),
      digit_back (value / 2 ^ 6),
      digit_back (value / 2 ^ 7),
    )
    (omega (arith, few))

mode_back : (p : Registers) (seen : BufferView) (value : ℕ) → value < 256 →
    value_of (after_writing p Mode value) seen Mode
    ≡ Some (if is_forced p && not (is_set value 0) then value % 16 + 1 else value % 16)
mode_back p seen value few = chosen (is_forced p) (is_set value 0) refl
  where
    chosen : (forced set : Bool) → is_set value 0 ≡ set →
        value_of (if forced && not set
        then after_forced_off (record p { mode = record (mode_of value) { rm = true } })
        else record p { mode = mode_of value }) seen Mode
        ≡ Some (if forced && not set then value % 16 + 1 else value % 16)
    chosen true true e = ap Some (byte_back value few)
    chosen true false e = ap Some (forced_back value few e)
    chosen false set e = ap Some (byte_back value few)

read_as_written : (p : Registers) (seen : BufferView) (register : Register) (value read : ℕ) → RegisterFacts p →
    IsPlace register → value < 256 → read_back p register value ≡ Some read →
    value_of (after_writing p register value) seen register ≡ Some read
read_as_written p seen Mode value read facts place few back = mode_back p seen value few ∙ back
read_as_written p seen Command value read facts place few back = search rules
read_as_written p seen Status value read facts place few back = search rules
read_as_written p seen Interrupt value read facts place few back = search rules
read_as_written p seen InterruptEnable value read facts place few back = ap Some (enable_back value few) ∙ back
read_as_written p seen ArbitrationLostCapture value read facts place few back = search rules
read_as_written p seen ErrorCodeCapture value read facts place few back = search rules
read_as_written p seen ErrorWarningLimit value read facts place few back = search rules
read_as_written p seen ReceiveErrorCounter value read facts place few back = search rules
read_as_written p seen TransmitErrorCounter value read facts place few back = search rules
read_as_written p seen (AcceptanceCode i) value read facts place few back = search rules
read_as_written p seen (AcceptanceMask i) value read facts place few back = search rules
read_as_written p seen (Buffer i) value read facts place few back = search rules
read_as_written p seen ReceiveMessageCounter value read facts place few back = search rules

pub returns : goal.returns
returns c = read_as_written
