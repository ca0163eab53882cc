-- The bits at rest that come next in a journal (this project's own rule).
use Rattle.std.specs.Prelude.{ℕ, suc, List, [], ◌∷◌}
use Rattle.can_levels.specs.declared.level.Level.TheVariants.{Dominant, Recessive}
use Rattle.sja_journal.specs.declared.entry.Entry.{Entry}
use Rattle.sja_journal.specs.declared.entry.Entry.TheVariants.{Bit, Up as Item, Abort, Stored, Overrun, Off}

-- a bit at rest: the node drove and saw recessive
abbrev pub rest_bit : Entry
rest_bit = Bit Recessive Recessive

-- how many of them stand before the first entry that is none
abbrev pub rest_before : List Entry → ℕ
rest_before [] = 0
rest_before (Bit Recessive Recessive ∷ es) = suc (rest_before es)
rest_before (Bit Recessive Dominant ∷ es) = 0
rest_before (Bit Dominant seen ∷ es) = 0
rest_before (Item u ∷ es) = 0
rest_before (Abort ∷ es) = 0
rest_before (Stored m ∷ es) = 0
rest_before (Overrun m ∷ es) = 0
rest_before (Off ∷ es) = 0
