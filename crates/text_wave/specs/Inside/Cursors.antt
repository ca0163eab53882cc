-- A journal gone over bit by bit, and what its node's signals show.
use Rattle.std.specs.Prelude.{ℕ, zero, suc, Bool, true, false, not, List, [], ◌∷◌}
use Rattle.sja_journal.specs.declared.up.Up.TheVariants.{Start, Credit, Send, Stop}
use Rattle.sja_journal.specs.declared.entry.Entry.{Entry}
use Rattle.sja_journal.specs.declared.entry.Entry.TheVariants.{Bit, Up as Item, Abort, Stored, Overrun, Off}
use Rattle.sja_log.specs.Log.{NodeValue}
use Rattle.text_wave.specs.declared.signals.Signals.{Signals}
use Rattle.text_wave.specs.declared.cursor.Cursor.{Cursor}
use Rattle.text_wave.specs.Through.{through}
use Rattle.text_wave.specs.Signals.{last_bit, shows_active, shows_off, shows_stored, shows_overrun}

-- what the signals show after these entries
abbrev pub signals_of : List Entry → Signals
signals_of es = record {
  driven = (last_bit es).driven;
  seen = (last_bit es).seen;
  active = shows_active es;
  off = shows_off es;
  stored = shows_stored es;
  overrun = shows_overrun es;
}

-- with an entry more
abbrev pub entered : Signals → Entry → Signals
entered s (Bit driven seen) = record s { driven = driven; seen = seen }
entered s (Item (Start config)) = record s { active = true; off = false }
entered s (Item (Credit n)) = s
entered s (Item (Send request)) = s
entered s (Item Stop) = record s { active = false }
entered s Abort = s
entered s (Stored m) = record s { stored = not s.stored }
entered s (Overrun m) = record s { overrun = not s.overrun }
entered s Off = record s { active = false; off = true }

-- whether an entry is a bit
abbrev pub is_bit : Entry → Bool
is_bit (Bit driven seen) = true
is_bit (Item u) = false
is_bit Abort = false
is_bit (Stored m) = false
is_bit (Overrun m) = false
is_bit Off = false

-- with several
abbrev pub all_entered : Signals → List Entry → Signals
all_entered s [] = s
all_entered s (e ∷ es) = all_entered (entered s e) es

-- the entries that are left after the n-th bit
abbrev pub past : ℕ → List Entry → List Entry
past zero j = j
past (suc n) [] = []
past (suc n) (Bit driven seen ∷ j) = past n j
past (suc n) (Item u ∷ j) = past (suc n) j
past (suc n) (Abort ∷ j) = past (suc n) j
past (suc n) (Stored m ∷ j) = past (suc n) j
past (suc n) (Overrun m ∷ j) = past (suc n) j
past (suc n) (Off ∷ j) = past (suc n) j

-- past the next bit, with what they showed before as it was
abbrev pub stepped : Cursor → Cursor
stepped c = record c { entries = past 1 c.entries; shows = all_entered c.shows (through 1 c.entries) }

-- a bit more
abbrev pub advanced : Cursor → Cursor
advanced c = record {
  entries = past 1 c.entries;
  showed = c.shows;
  shows = all_entered c.shows (through 1 c.entries);
}

-- before the first bit
abbrev pub opened : NodeValue → Cursor
opened node = record { entries = node.journal; showed = signals_of []; shows = signals_of [] }

-- after the bits 0 to k
abbrev pub cursor_at : ℕ → NodeValue → Cursor
cursor_at k node = record {
  entries = past (suc k) node.journal;
  showed = signals_of (through k node.journal);
  shows = signals_of (through (suc k) node.journal);
}
