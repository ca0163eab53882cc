-- The order of what the bus enters in the part of an activation (this project's own rule).
use Rattle.std.specs.Prelude.{◌≡◌, ◌≢◌, ◌≤◌, ◌+◌, ℕ, List, [], length}
use Rattle.sja_journal.specs.declared.up.Up.TheVariants.{Start, Credit, Send, Stop}
use Rattle.sja_journal.specs.declared.entry.Entry.{Entry}
use Rattle.sja_journal.specs.declared.entry.Entry.TheVariants.{Bit, Up as Item, Abort, Stored, Overrun, Off}
use Rattle.lemmas.specs.Gathering.{total}
use Rattle.sja_journal.specs.Carried.{put_of, taken_of}
use Rattle.sja_journal.specs.Free.{credit_in, bytes_in, free_of}
use Rattle.sja_journal.specs.Parts.{part}
use Rattle.lemmas.specs.Picking.{EachAfter}
use Rattle.sja_link.specs.World.{is_off, is_start, is_stop}

-- after these entries the activation runs: its start was taken, and no stop
pub record IsRunning (before : List Entry) : Type 0 where
  pub started : total is_start (taken_of before) ≢ 0
  pub running : total is_stop (taken_of before) ≡ 0

-- whether an entry may come after these in the part of an activation: a start is its first item, a stop its last;
-- bus-off is the last that is put; a message that is stored has room; and a credit is of the 3 to 13 bytes of a
-- message,
-- and of none that weren't stored
abbrev pub IsOrderly : List Entry → Entry → Type 0
IsOrderly before (Stored m) =
    IsRunning before × (total is_off (put_of before) ≡ 0) × (length m ≤ free_of before)
IsOrderly before Off = IsRunning before × (total is_off (put_of before) ≡ 0)
IsOrderly before (Item (Start config)) = taken_of before ≡ []
IsOrderly before (Item (Credit n)) =
    IsRunning before × (3 ≤ n) × (n ≤ 13) × (total credit_in before + n ≤ total bytes_in before)
IsOrderly before (Item (Send request)) = IsRunning before
IsOrderly before (Item Stop) = IsRunning before
IsOrderly before (Bit driven seen) = Unit {0}
IsOrderly before Abort = Unit {0}
IsOrderly before (Overrun m) = Unit {0}

-- so it is in each part of a journal
abbrev pub AreOrderly : List Entry → Type 0
AreOrderly j = (a : ℕ) → EachAfter IsOrderly [] (part j a)
