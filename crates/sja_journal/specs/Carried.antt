-- What the entries of a journal carry (this project's own rule).
use Rattle.std.specs.Prelude.{ℕ, List, [], ◌∷◌}
use Rattle.sja_journal.specs.NodeWords.{NodeBit}
use Rattle.sja_journal.specs.declared.down.Down.{Down}
use Rattle.sja_journal.specs.declared.down.Down.TheVariants.{Message, Off as OffDown}
use Rattle.sja_journal.specs.declared.up.Up.{Up}
use Rattle.sja_journal.specs.declared.entry.Entry.{Entry}
use Rattle.sja_journal.specs.declared.entry.Entry.TheVariants.{Bit, Up as Item, Abort, Stored, Overrun, Off}
use Rattle.lemmas.specs.Gathering.{gathered}

-- the two levels of a bit
abbrev pub bit_in : Entry → List NodeBit
bit_in (Bit driven seen) = (record { driven = driven; seen = seen }) ∷ []
bit_in (Item u) = []
bit_in Abort = []
bit_in (Stored m) = []
bit_in (Overrun m) = []
bit_in Off = []

-- the bits, in order
abbrev pub bits_of : List Entry → List NodeBit
bits_of = gathered bit_in

-- what the bus took with an entry
abbrev pub taken_in : Entry → List Up
taken_in (Item u) = u ∷ []
taken_in (Bit driven seen) = []
taken_in Abort = []
taken_in (Stored m) = []
taken_in (Overrun m) = []
taken_in Off = []

-- the items that the bus took, in order
abbrev pub taken_of : List Entry → List Up
taken_of = gathered taken_in

-- what the bus put with an entry
abbrev pub put_in : Entry → List Down
put_in (Stored m) = Message m ∷ []
put_in Off = OffDown ∷ []
put_in (Bit driven seen) = []
put_in (Item u) = []
put_in Abort = []
put_in (Overrun m) = []

-- the items that the bus put, in order
abbrev pub put_of : List Entry → List Down
put_of = gathered put_in

-- the message of a verdict that stored it
abbrev pub stored_in : Entry → List (List ℕ)
stored_in (Stored m) = m ∷ []
stored_in (Bit driven seen) = []
stored_in (Item u) = []
stored_in Abort = []
stored_in (Overrun m) = []
stored_in Off = []

-- the messages that were stored, in order
abbrev pub stored_of : List Entry → List (List ℕ)
stored_of = gathered stored_in

-- the message of a verdict that lost it
abbrev pub overrun_in : Entry → List (List ℕ)
overrun_in (Overrun m) = m ∷ []
overrun_in (Bit driven seen) = []
overrun_in (Item u) = []
overrun_in Abort = []
overrun_in (Stored m) = []
overrun_in Off = []

-- the messages that were overrun, in order
abbrev pub overrun_of : List Entry → List (List ℕ)
overrun_of = gathered overrun_in
