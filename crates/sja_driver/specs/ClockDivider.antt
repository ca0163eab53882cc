-- The clock divider register CDR (SJA1000 data sheet, 6.5.4).
use Rattle.std.specs.Prelude.{◌+◌, ◌*◌, ◌/◌, ◌%◌, ℕ, Bool, true, false}

-- what a write leaves, in reset mode (`true`) and out of it. Bits 0 to 2 (CD) can be written always, bits 3 (clock
-- off), 5 (RXINTEN) and 6 (CBP) in reset mode alone. Bit 4 is 0, and bit 7 is 1: the mode is always PeliCAN (that a
-- write of bit 7 is ignored is this project's own rule)
abbrev pub divider_after : ℕ → Bool → ℕ → ℕ
divider_after divider true value = 128 + value / 32 % 4 * 32 + value % 16
divider_after divider false value = divider / 8 * 8 + value % 8
