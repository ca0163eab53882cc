-- What the bus enters in the journal of a node in one bit (this project's own rule).
use Rattle.std.specs.Prelude.{◌≡◌, ℕ, suc, Bool, true, false, Option, Some, None}
use Rattle.std.specs.Prelude.{List, [], ◌∷◌, ◌++◌, map}
use Rattle.can_levels.specs.declared.level.Level.{Level}
use Rattle.sja_journal.specs.declared.up.Up.{Up}
use Rattle.sja_journal.specs.declared.verdict.Verdict.{Verdict}
use Rattle.sja_journal.specs.declared.entry.Entry.{Entry}
use Rattle.sja_journal.specs.declared.entry.Entry.TheVariants.{Bit, Up as Item, Abort, Off}
use Rattle.sja_journal.specs.Places.{past, place_of}
use Rattle.sja_journal.specs.Verdicts.{entry_of}
use Rattle.sja_journal.specs.Links.{stops_of}
use Rattle.sja_journal.specs.OutOfOrder.{IsOutOfOrder}

-- the entries of items that were taken
abbrev pub entries_of_items : List Up → List Entry
entries_of_items items = map (λ u. Item u) items

-- a journal has these items more, and nothing else
pub record HasMore (j k : List Entry) : Type 0 where
  pub items : List Up
  pub whole : k ≡ j ++ entries_of_items items

-- an item is of the activation whose link is read: the one after those that have ended
abbrev pub IsRead : List Entry → Up → Type 0
IsRead j u = (past (place_of j) (Item u)).activation ≡ suc (stops_of j)

-- items one after another, each of the activation whose link is read then
abbrev pub AreRead : List Entry → List Up → Type 0
AreRead j [] = Unit {0}
AreRead j (u ∷ items) = IsRead j u × AreRead (j ++ Item u ∷ []) items

-- after this journal each of these items may come where it comes
abbrev pub AreInOrder : List Entry → List Up → Type 0
AreInOrder j [] = Unit {0}
AreInOrder j (u ∷ items) = (IsOutOfOrder j u → ⊥) × AreInOrder (j ++ Item u ∷ []) items

-- the journal has these items more, each of the activation whose link is read, and none out of order
pub record MayHaveItems (j k : List Entry) : Type 0 where
  pub items : List Up
  pub whole : k ≡ j ++ entries_of_items items
  pub read : AreRead j items
  pub in_order : AreInOrder j items

-- the entry of an abort that changed the node, or none
abbrev pub abort_as : Bool → List Entry
abort_as true = Abort ∷ []
abort_as false = []

-- the journal has such an abort more, or is what it was
pub record MayHaveAbort (j k : List Entry) : Type 0 where
  pub changed : Bool
  pub whole : k ≡ j ++ abort_as changed

-- the entry of what came of a message, or none
abbrev pub judged_as : Option (Verdict × List ℕ) → List Entry
judged_as None = []
judged_as (Some v) = entry_of (v.0) (v.1) ∷ []

-- the entry of bus-off, or none
abbrev pub off_as : Bool → List Entry
off_as true = Off ∷ []
off_as false = []

-- the journal has a bit more, and then what came of a frame that was received with it
pub record MayHaveVerdict (j : List Entry) (driven seen : Level) (k : List Entry) : Type 0 where
  pub verdict : Option (Verdict × List ℕ)
  pub whole : k ≡ (j ++ Bit driven seen ∷ []) ++ judged_as verdict

-- and then bus-off, where the node went bus-off in the bit
pub record HasBit (j : List Entry) (driven seen : Level) (k : List Entry) : Type 0 where
  pub verdict : Option (Verdict × List ℕ)
  pub off : Bool
  pub whole : k ≡ ((j ++ Bit driven seen ∷ []) ++ judged_as verdict) ++ off_as off

-- a journal has one bit more: an abort that changed the node or none, the bit, and what came of it. No item was taken
pub record HasOneBit (j k : List Entry) : Type 0 where
  pub changed : Bool
  pub driven : Level
  pub seen : Level
  pub bit : HasBit (j ++ abort_as changed) driven seen k
