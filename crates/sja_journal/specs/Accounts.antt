-- The lists of the link of an activation, by its part of the journal (this project's own rule).
use Rattle.std.specs.Prelude.{ℕ, List}
use Rattle.sja_journal.specs.declared.down.Down.{Down}
use Rattle.sja_journal.specs.declared.down.Down.TheVariants.{Message, Off as OffDown}
use Rattle.sja_journal.specs.declared.up.Up.{Up}
use Rattle.sja_journal.specs.declared.entry.Entry.{Entry}
use Rattle.sja_journal.specs.declared.entry.Entry.TheVariants.{Bit, Up as Item, Abort, Stored, Overrun, Off}
use Rattle.sja_journal.specs.Lists.{Lists, with_put, with_taken}
use Rattle.sja_journal.specs.Parts.{part}
use Rattle.sja_journal.specs.Carried.{put_of, taken_of}

-- what a driver got and gave on one link
pub record Account : Type 0 where
  pub got : List Down
  pub given : List Up

-- the bus's two lists by the part of the journal, the driver's two by its account
abbrev pub account : List Entry → ℕ → Account → Lists
account j a h = record { put = put_of (part j a); taken = taken_of (part j a); got = h.got; given = h.given }

-- the lists with what an entry put or took
abbrev pub with_entry : Lists → Entry → Lists
with_entry l (Item u) = with_taken l u
with_entry l (Stored m) = with_put l (Message m)
with_entry l Off = with_put l OffDown
with_entry l (Bit driven seen) = l
with_entry l Abort = l
with_entry l (Overrun m) = l
