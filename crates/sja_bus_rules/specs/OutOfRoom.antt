-- A bit whose entries the reserved ones of a journal don't hold (this project's own rule).
use Rattle.std.specs.Prelude.{List, ◌∷◌, ◌++◌}
use Rattle.can_levels.specs.declared.level.Level.{Level}
use Rattle.sja_journal.specs.declared.entry.Entry.{Entry}
use Rattle.sja_journal.specs.Verdicts.{IsLawful}
use Rattle.sja_journal.specs.Written.{Room, IsFullFor}
use Rattle.sja_journal.specs.Links.{Grows}
use Rattle.sja_journal.specs.BitEntries.{HasBit}

-- a journal with this room, which was `before` as the bit began, has none for one more entry of the same bit that is
-- due: the bit itself, what came of a frame that was received with it, or bus-off. With that entry, and with those that
-- may come after it, the journal is one that has the whole bit, by whose record the verdicts are right
pub record IsOutOfRoom (room : Room) (before j : List Entry) : Type 0 where
  pub grows : Grows before j
  pub due : Entry
  pub used : IsFullFor room j due
  pub later : List Entry
  pub driven : Level
  pub seen : Level
  pub bit : HasBit before driven seen (j ++ due ∷ later)
  pub lawful : IsLawful (j ++ due ∷ later)
