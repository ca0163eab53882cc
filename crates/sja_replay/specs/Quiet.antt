-- Entries of a journal of which the first tells nothing of the bit before them (this project's own rule).
use Rattle.std.specs.Prelude.{List, [], ◌∷◌}
use Rattle.sja_journal.specs.declared.entry.Entry.{Entry}
use Rattle.sja_journal.specs.declared.entry.Entry.TheVariants.{Bit, Up as Item, Abort, Stored, Overrun, Off}

-- neither a verdict nor bus-off stands first
abbrev pub IsQuiet : List Entry → Type 0
IsQuiet [] = Unit {0}
IsQuiet (Bit driven seen ∷ rest) = Unit {0}
IsQuiet (Item u ∷ rest) = Unit {0}
IsQuiet (Abort ∷ rest) = Unit {0}
IsQuiet (Stored m ∷ rest) = ⊥
IsQuiet (Overrun m ∷ rest) = ⊥
IsQuiet (Off ∷ rest) = ⊥
