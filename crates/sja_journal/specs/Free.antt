-- The bytes of the receive buffer that are free (SJA1000 data sheet, 6.4.14: the receive FIFO has 64 bytes).
use Rattle.std.specs.Prelude.{◌≡◌, ◌+◌, ◌-◌, ℕ, List, length}
use Rattle.sja_journal.specs.declared.up.Up.{Up}
use Rattle.sja_journal.specs.declared.up.Up.TheVariants.{Start, Credit, Send, Stop}
use Rattle.sja_journal.specs.declared.entry.Entry.{Entry}
use Rattle.sja_journal.specs.declared.entry.Entry.TheVariants.{Bit, Up as Item, Abort, Stored, Overrun, Off}
use Rattle.lemmas.specs.Gathering.{total}

-- the bytes that an item gives back
abbrev pub credit_of : Up → ℕ
credit_of (Credit n) = n
credit_of (Start config) = 0
credit_of (Send request) = 0
credit_of Stop = 0

-- the bytes that an entry gives back
abbrev pub credit_in : Entry → ℕ
credit_in (Item u) = credit_of u
credit_in (Bit driven seen) = 0
credit_in Abort = 0
credit_in (Stored m) = 0
credit_in (Overrun m) = 0
credit_in Off = 0

-- the bytes that a verdict stored
abbrev pub bytes_in : Entry → ℕ
bytes_in (Stored m) = length m
bytes_in (Bit driven seen) = 0
bytes_in (Item u) = 0
bytes_in Abort = 0
bytes_in (Overrun m) = 0
bytes_in Off = 0

-- after a part of a journal: 64, less the bytes stored, and the credits taken
abbrev pub free_of : List Entry → ℕ
free_of p = (64 + total credit_in p) - total bytes_in p

-- so many bytes are free after a part: with those stored they are 64 and the credits taken
abbrev pub IsFree : List Entry → ℕ → Type 0
IsFree p n = n + total bytes_in p ≡ 64 + total credit_in p
