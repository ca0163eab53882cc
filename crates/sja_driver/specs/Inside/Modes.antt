-- Writes of MOD by RM (SJA1000 data sheet, 6.4.3).
use Rattle.std.specs.Prelude.{◌||◌, not, Bool}
use Rattle.sja_regs.specs.declared.mode.Mode.{Mode}
use Rattle.sja_regs.specs.declared.registers.Registers.{Registers}
use Rattle.sja_regs.specs.Bits.{differ}
use Rattle.sja_regs.specs.Registers.{is_forced}

-- RM is written as it is, or a bus-off is asked for: the write is that of the typed driver
abbrev pub is_written : Registers → Mode → Bool
is_written p new = not (differ p.mode.rm new.rm) || is_forced p
