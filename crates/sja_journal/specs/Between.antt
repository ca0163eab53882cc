-- What stands between the bits of a journal (this project's own rule).
use Rattle.std.specs.Prelude.{List, [], ◌∷◌}
use Rattle.sja_journal.specs.declared.entry.Entry.{Entry}
use Rattle.sja_journal.specs.declared.entry.Entry.TheVariants.{Bit, Up as Item, Abort, Stored, Overrun, Off}
use Rattle.lemmas.specs.Gathering.{gathered}

-- an entry that is no bit
abbrev pub unless_bit : Entry → List Entry
unless_bit (Bit driven seen) = []
unless_bit (Item u) = Item u ∷ []
unless_bit Abort = Abort ∷ []
unless_bit (Stored m) = Stored m ∷ []
unless_bit (Overrun m) = Overrun m ∷ []
unless_bit Off = Off ∷ []

-- the entries that are no bits, in order
abbrev pub between_bits : List Entry → List Entry
between_bits = gathered unless_bit
