-- The status register SR (SJA1000 data sheet, 6.4.5).
use Rattle.std.specs.Prelude.{ℕ, [], ◌∷◌}
use Rattle.sja_regs.specs.declared.status.Status.{Status}
use Rattle.sja_regs.specs.Bits.{byte}

-- RBS bit 0, DOS bit 1, TBS bit 2, TCS bit 3, RS bit 4, TS bit 5, ES bit 6, BS bit 7
abbrev pub status_byte : Status → ℕ
status_byte s = byte (s.rbs ∷ s.dos ∷ s.tbs ∷ s.tcs ∷ s.rs ∷ s.ts ∷ s.es ∷ s.bs ∷ [])
