-- The mode register MOD (SJA1000 data sheet, 6.4.3).
use Rattle.std.specs.Prelude.{ℕ, false, [], ◌∷◌}
use Rattle.sja_regs.specs.declared.mode.Mode.{Mode}
use Rattle.sja_regs.specs.Bits.{is_set, byte}

-- RM bit 0, LOM bit 1, STM bit 2, AFM bit 3; bits 4 to 7 are ignored where written (this project's own rule)
abbrev pub mode_of : ℕ → Mode
mode_of value = record { rm = is_set value 0; lom = is_set value 1; stm = is_set value 2; afm = is_set value 3 }

-- bits 4 to 7 read 0 (this project's own rule)
abbrev pub mode_byte : Mode → ℕ
mode_byte m = byte (m.rm ∷ m.lom ∷ m.stm ∷ m.afm ∷ false ∷ false ∷ false ∷ false ∷ [])
