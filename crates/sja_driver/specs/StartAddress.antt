-- RBSA, the receive buffer's start address: where the first unread message lies in the 64 bytes of the receive FIFO
-- (SJA1000 data sheet, 6.4.17).
use Rattle.std.specs.Prelude.{◌+◌, ◌%◌, ℕ}

-- what a write of this value in reset mode leaves: its low 6 bits (this project's own rule)
abbrev pub start_written : ℕ → ℕ
start_written value = value % 64

-- after a message of this many bytes was released: it moves on by them, round the 64 bytes
abbrev pub start_after : ℕ → ℕ → ℕ
start_after start length = (start + length) % 64
