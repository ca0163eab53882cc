-- A journal that goes on (this project's own rule).
use Rattle.std.specs.Prelude.{◌≡◌, List, [], ◌∷◌, ◌++◌}
use Rattle.sja_journal.specs.declared.entry.Entry.{Entry}
use Rattle.sja_journal.specs.declared.entry.Entry.TheVariants.{Bit, Up as Item, Abort, Stored, Overrun, Off}

-- before their first bit these entries have no verdict and no bus-off
abbrev pub BringsLater : List Entry → Type 0
BringsLater [] = Unit {0}
BringsLater (Bit driven seen ∷ es) = Unit {0}
BringsLater (Item u ∷ es) = BringsLater es
BringsLater (Abort ∷ es) = BringsLater es
BringsLater (Stored m ∷ es) = ⊥
BringsLater (Overrun m ∷ es) = ⊥
BringsLater (Off ∷ es) = ⊥

-- a journal is a front of this one, up to some bit and all that the bit brought, or to some item
pub record GoesOn (j whole : List Entry) : Type 0 where
  pub rest : List Entry
  pub is : whole ≡ j ++ rest
  pub later : BringsLater rest
