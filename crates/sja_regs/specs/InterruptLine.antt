-- The interrupt line INT (SJA1000 data sheet, 6.4.6).
use Rattle.std.specs.Prelude.{◌==◌, not, Bool}
use Rattle.can_frame.specs.declared.buffer_view.BufferView.{BufferView}
use Rattle.sja_regs.specs.declared.registers.Registers.{Registers}
use Rattle.sja_regs.specs.Interrupting.{interrupts_byte}
use Rattle.sja_regs.specs.Registers.{interrupts_in}

-- the line is active, which is low, exactly where some bit of IR is 1 as a read would show it now
abbrev pub is_line_active : Registers → BufferView → Bool
is_line_active p seen = not (interrupts_byte (interrupts_in p seen) == 0)
