-- The entries of a journal up to one of its bits (this project's own rule).
use Rattle.std.specs.Prelude.{ℕ, zero, suc, List, [], ◌∷◌}
use Rattle.sja_journal.specs.declared.entry.Entry.{Entry}
use Rattle.sja_journal.specs.declared.entry.Entry.TheVariants.{Bit, Up as Item, Abort, Stored, Overrun, Off}

-- the entries up to the n-th bit, which is the last of them; all entries where there are fewer bits
abbrev pub through : ℕ → List Entry → List Entry
through zero j = []
through (suc n) [] = []
through (suc n) (Bit driven seen ∷ j) = Bit driven seen ∷ through n j
through (suc n) (Item u ∷ j) = Item u ∷ through (suc n) j
through (suc n) (Abort ∷ j) = Abort ∷ through (suc n) j
through (suc n) (Stored m ∷ j) = Stored m ∷ through (suc n) j
through (suc n) (Overrun m ∷ j) = Overrun m ∷ through (suc n) j
through (suc n) (Off ∷ j) = Off ∷ through (suc n) j
