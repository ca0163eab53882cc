-- The capture registers ALC and ECC (SJA1000 data sheet, 6.4.8 and 6.4.9).
use Rattle.std.specs.Prelude.{ℕ, true, false, if◌then◌else◌, Option, Some, None}
use Rattle.sja_regs.specs.declared.capture.Capture.{Capture}

-- a value is captured only where the last capture was read; it stays until the next one
abbrev pub after_capture : Capture → Option ℕ → Capture
after_capture c None = c
after_capture c (Some value) = if c.was_read then record { value = value; was_read = false } else c

-- reading the register allows the next capture, and the value stays until then
abbrev pub after_look : Capture → Capture
after_look c = record c { was_read = true }
