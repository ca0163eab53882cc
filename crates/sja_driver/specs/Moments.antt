-- A journal at an earlier moment of its run (this project's own rule).
use Rattle.std.specs.Prelude.{◌≡◌, ◌≤◌, ℕ, zero, suc, List, [], ◌∷◌, ◌++◌, length}
use Rattle.can_levels.specs.declared.level.Level.{Level}
use Rattle.sja_journal.specs.NodeWords.{NodeEntry}
use Rattle.sja_journal.specs.declared.entry.Entry.{Entry}
use Rattle.sja_journal.specs.declared.entry.Entry.TheVariants.{Bit, Up as Item, Abort, Stored, Overrun, Off}
use Rattle.sja_journal.specs.Carried.{bits_of, taken_of}
use Rattle.lemmas.specs.Picking.{EachAfter}
use Rattle.sja_journal.specs.Records.{record_of}
use Rattle.sja_driver.specs.TypedActs.{TypedAct, given_in}

-- the entries up to the moment when so many bits were run and so many items taken. An abort belongs to the bit after
-- it, a verdict and bus-off to the bit before
abbrev pub at_moment : ℕ → ℕ → List Entry → List Entry
at_moment bits items [] = []
at_moment zero items (Bit driven seen ∷ j) = []
at_moment (suc bits) items (Bit driven seen ∷ j) = Bit driven seen ∷ at_moment bits items j
at_moment bits zero (Item item ∷ j) = []
at_moment bits (suc items) (Item item ∷ j) = Item item ∷ at_moment bits items j
at_moment zero items (Abort ∷ j) = []
at_moment (suc bits) items (Abort ∷ j) = Abort ∷ at_moment (suc bits) items j
at_moment bits items (Stored m ∷ j) = Stored m ∷ at_moment bits items j
at_moment bits items (Overrun m ∷ j) = Overrun m ∷ at_moment bits items j
at_moment bits items (Off ∷ j) = Off ∷ at_moment bits items j

-- the node's record after so many bits, when all that these acts gave was taken
abbrev pub record_at : List Entry → List TypedAct → ℕ → List NodeEntry
record_at j before bits = record_of (at_moment bits (length (given_in before)) j)

-- ---- the same, as a front of the journal

-- an entry is later than so many bits and items, if these came before it: a bit, or an abort before one, where all
-- these bits have come; an item, where all these items have; a verdict and bus-off never
abbrev pub IsLater : ℕ → ℕ → List Entry → Entry → Type 0
IsLater bits items before (Bit driven seen) = bits ≤ length (bits_of before)
IsLater bits items before Abort = bits ≤ length (bits_of before)
IsLater bits items before (Item item) = items ≤ length (taken_of before)
IsLater bits items before (Stored m) = ⊥
IsLater bits items before (Overrun m) = ⊥
IsLater bits items before Off = ⊥

-- a front of a journal, up to its first later entry, if it has one
pub record IsFront (bits items : ℕ) (j front : List Entry) : Type 0 where
  pub rest : List Entry
  pub whole : j ≡ front ++ rest
  pub early : EachAfter (λ before e. ¬ IsLater bits items before e) [] front
  pub ends : (e : Entry) (more : List Entry) → rest ≡ e ∷ more → IsLater bits items front e

-- the next entry is a bit
pub record BeginsWithBit (j : List Entry) : Type 0 where
  pub driven : Level
  pub seen : Level
  pub rest : List Entry
  pub whole : j ≡ Bit driven seen ∷ rest
