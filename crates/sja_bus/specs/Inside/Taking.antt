-- An item that the bus takes, and an abort that it applies.
use Rattle.std.specs.Prelude.{◌≡◌, ◌≤◌, ℕ, suc, true, Bool, List, [], ◌∷◌, ◌++◌}
use Rattle.can_levels.specs.declared.level.Level.{Level}
use Rattle.sja_link.specs.declared.bus_end.BusEnd.{Ghosts as Ends}
use Rattle.sja_journal.specs.declared.up.Up.{Up}
use Rattle.sja_journal.specs.declared.entry.Entry.{Entry}
use Rattle.sja_journal.specs.declared.entry.Entry.TheVariants.{Up as Item, Abort}
use Rattle.sja_journal.specs.Written.{Room, Fits, IsFullFor}
use Rattle.sja_journal.specs.Places.{past, place_of}
use Rattle.sja_journal.specs.Lists.{Lists, with_taken, Carries, OthersStand}
use Rattle.sja_journal.specs.Accounts.{Account}
use Rattle.sja_regs.specs.declared.orders.Orders.{Orders}
use Rattle.sja_link.specs.BusLedgers.{link_of}
use Rattle.sja_journal.specs.declared.bus_fault.BusFault.{BusFault}
use Rattle.sja_journal.specs.declared.bus_fault.BusFault.TheVariants.{BitsSpent, BadCredit, Stuck, BadOrder}
use Rattle.sja_journal.specs.declared.bus_fault.BusFault.TheVariants.{JournalFull}
use Rattle.sja_bus.specs.declared.bus_node.BusNode.{BusNode}
use Rattle.sja_journal.specs.Links.{Kept, Grows}
use Rattle.sja_bus_rules.specs.Reasons.{IsRefusedFor, GivesBack}
use Rattle.sja_journal.specs.OutOfOrder.{IsOutOfOrder}
use Rattle.sja_journal.specs.Aborting.{IsApplied}
use Rattle.sja_journal.specs.Opening.{BeginsWithin}
use Rattle.sja_journal.specs.BitEntries.{MayHaveItems, MayHaveAbort}
use Rattle.sja_bus_rules.specs.OutOfRoom.{IsOutOfRoom}
use Rattle.sja_bus.specs.Inside.BusNodes.{IsSound, IsBusNode, IsJudged}

-- it may come there, was entered, and belongs to the activation that was read
pub record Takes (old new : BusNode) (item : Up) : Type 0 where
  pub due : IsOutOfOrder old.journal.entries item → ⊥
  pub sound : IsSound new
  pub bus_node : IsBusNode new
  pub fits : Fits old.journal.room (old.journal.entries ++ Item item ∷ [])
  pub stands : (past (place_of old.journal.entries) (Item item)).activation ≡ suc old.ended
  pub entered : new.journal.entries ≡ old.journal.entries ++ Item item ∷ []

-- with this fault it wasn't entered
abbrev pub Refuses : BusNode → BusNode → Up → BusFault → Type 0
Refuses old new item f = (new.journal.entries ≡ old.journal.entries)
    × IsRefusedFor (link_of old.ledger).node old.journal.room old.journal.entries item f

-- with this fault the item wasn't entered that this end showed on the link that is read, which it has
pub record RefusesHere {E : Type 0} (e : Ends E) (end after : E) (old new : BusNode) (f : BusFault) : Type 0 where
  pub item : Up
  pub refuses : Refuses old new item f
  pub few : suc old.ended ≤ e.links end
  pub shown : Carries e.stands (suc old.ended) end after (λ l. with_taken l item)
  pub others : OthersStand e.stands (suc old.ended) end after

-- there was no room for this entry
pub record IsFull (old new : BusNode) (e : Entry) (f : BusFault) : Type 0 where
  pub is : f ≡ JournalFull (link_of old.ledger).node
  pub same : new.journal.entries ≡ old.journal.entries
  pub full : IsFullFor old.journal.room old.journal.entries e

-- an end gave an item back on the link of this activation: as it was then it was the same end and full, and on each
-- link it stood for what it stood for before
pub record IsGivenBack {E : Type 0} (e : Ends E) (a : ℕ) (end : E) : Type 0 where
  pub last : E
  pub same : e.same end last
  pub is_full : e.full last a
  pub stood : (b : ℕ) (l : Lists) → e.stands end b l → e.stands last b l

-- with this fault a part of a node's bit broke off: an entry found no room, and then this holds; or a put was given
-- back
abbrev pub BreaksBy : {E : Type 0} → Type 0 → Ends E → E → BusNode → BusNode → BusFault → Type 0
BreaksBy Unheld e end old new (JournalFull k) = (k ≡ (link_of old.ledger).node) × Unheld
BreaksBy Unheld e end old new (Stuck k) = (k ≡ (link_of old.ledger).node)
    × GivesBack e old.journal.entries new.journal.entries end
BreaksBy Unheld e end old new (BadCredit k bytes) = ⊥
BreaksBy Unheld e end old new (BadOrder k) = ⊥
BreaksBy Unheld e end old new BitsSpent = ⊥

-- a bit and the verdict on this message, of which the first or the second entry found no room
pub record IsJudgedShort (room : Room) (j : List Entry) (driven seen : Level) (a : ℕ) (m : List ℕ) (now : List Entry) :
    Type 0 where
  pub grows : Grows j now
  pub overrun : Bool
  pub due : Entry
  pub used : IsFullFor room now due
  pub later : List Entry
  pub judged : IsJudged j driven seen a m overrun (now ++ due ∷ later)

-- with this fault the entry of a bit, in which nothing else happens, found no room
abbrev pub IsBitShort : BusNode → BusNode → BusFault → Type 0
IsBitShort old new f = (f ≡ JournalFull (link_of old.ledger).node)
    × IsOutOfRoom old.journal.room old.journal.entries new.journal.entries

-- an abort was applied, and entered where it changed the node
pub record Applies (j k : List Entry) : Type 0 where
  pub aborts : MayHaveAbort j k
  pub is : IsApplied j aborts.changed

-- items were taken, and then an abort was ordered that changes the node, and its entry found no room. No activation
-- began on the way whose link the end doesn't have
pub record FullForAbort {E : Type 0} (e : Ends E) (has_orders : Orders → Type 0) (old new : BusNode) (end after : E)
    (f : BusFault) : Type 0 where
  pub is : f ≡ JournalFull (link_of old.ledger).node
  pub items : MayHaveItems old.journal.entries new.journal.entries
  pub orders : Orders
  pub are_orders : has_orders orders
  pub ordered : orders.abort ≡ true
  pub due : IsApplied new.journal.entries true
  pub full : IsFullFor old.journal.room new.journal.entries Abort
  pub kept : (h : ℕ → Account) → Kept e.stands old.journal.entries end h → Kept e.stands new.journal.entries after h
  pub within : BeginsWithin (e.links end) old.journal.entries new.journal.entries
