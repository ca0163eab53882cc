-- Why a bus doesn't go on: what each fault says of its node (this project's own rule).
use Rattle.std.specs.Prelude.{◌≡◌, ◌≢◌, ◌+◌, ◌<◌, ◌≤◌, ℕ, suc, true, Bool, List, ◌++◌, length, slice_index_or}
use Rattle.lemmas.specs.Related.{EachRelated}
use Rattle.sja_journal.specs.NodeWords.{FinishedPiece, IsCut, received}
use Rattle.sja_link.specs.declared.bus_end.BusEnd.{Ghosts as Ends}
use Rattle.sja_journal.specs.declared.up.Up.{Up}
use Rattle.sja_journal.specs.declared.up.Up.TheVariants.{Credit}
use Rattle.sja_journal.specs.declared.entry.Entry.{Entry}
use Rattle.sja_journal.specs.declared.entry.Entry.TheVariants.{Up as Item, Abort}
use Rattle.sja_journal.specs.Written.{Room, IsFullFor, room_in}
use Rattle.sja_journal.specs.Lists.{with_taken}
use Rattle.sja_journal.specs.Accounts.{Account, account}
use Rattle.sja_journal.specs.Parts.{part}
use Rattle.sja_journal.specs.Records.{record_of}
use Rattle.sja_journal.specs.Verdicts.{HasVerdicts}
use Rattle.sja_regs.specs.declared.orders.Orders.{Orders}
use Rattle.sja_journal.specs.declared.bus_fault.BusFault.{BusFault}
use Rattle.sja_journal.specs.declared.bus_fault.BusFault.TheVariants.{BitsSpent, BadCredit, Stuck, BadOrder}
use Rattle.sja_journal.specs.declared.bus_fault.BusFault.TheVariants.{JournalFull}
use Rattle.sja_bus_rules.specs.Wire.{journal_at}
use Rattle.sja_journal.specs.Links.{Kept, stops_of}
use Rattle.sja_journal.specs.Opening.{IsOpen, BeginsWithin}
use Rattle.sja_journal.specs.Activations.{HasActivations}
use Rattle.sja_journal.specs.Aborting.{IsApplied}
use Rattle.sja_bus_rules.specs.Opens.{Opens}
use Rattle.sja_journal.specs.BitEntries.{MayHaveItems, off_as}
use Rattle.sja_journal.specs.OutOfOrder.{read_in, IsBadCredit, IsOutOfOrder, MayCome, HasOff}
use Rattle.sja_bus_rules.specs.OutOfRoom.{IsOutOfRoom}
use Rattle.sja_bus_rules.specs.Buses.{BusValue}

-- ---- a node whose item was refused

-- with this fault a node with this room didn't enter this item after its journal: it is a bad credit, or out of order;
-- or it may come there, and there is no room for it
abbrev pub IsRefusedFor : ℕ → Room → List Entry → Up → BusFault → Type 0
IsRefusedFor node room j item (BadCredit k bytes) = (k ≡ node) × (item ≡ Credit bytes) × IsBadCredit j bytes
IsRefusedFor node room j item (BadOrder k) = (k ≡ node) × IsOutOfOrder j item
IsRefusedFor node room j item (JournalFull k) = (k ≡ node) × IsFullFor room j (Item item) × MayCome j item
IsRefusedFor node room j item (Stuck k) = ⊥
IsRefusedFor node room j item BitsSpent = ⊥

-- its journal went on from `before` to `j` with the items that were taken, and then an item was taken that wasn't
-- entered. Its end has the link that is read, and no activation began on the way whose link it doesn't have. Whatever
-- its driver got and gave, where its links stood for its journal before, the item came next on the link that is read,
-- and its other links stand for its journal
pub record RefusesItem {E : Type 0} (e : Ends E) (room : Room) (before j : List Entry) (end after : E) (node : ℕ)
    (f : BusFault) : Type 0 where
  pub item : Up
  pub why : IsRefusedFor node room j item f
  pub items : MayHaveItems before j
  pub few : read_in j ≤ e.links end
  pub within : BeginsWithin (e.links end) before j
  pub shown : (h : ℕ → Account) → Kept e.stands before end h →
      e.stands after (read_in j) (with_taken (account j (read_in j) (h (stops_of j))) item)
  pub others : (h : ℕ → Account) (a : ℕ) → Kept e.stands before end h → a ≢ stops_of j →
      e.stands after (suc a) (account j (suc a) (h a))

-- ---- a node whose bit broke off

-- the end of its links had no room, on the link that is read, for a message or for bus-off: it was the same end still,
-- and whatever its driver got and gave, where its links stood for its journal before, they stood for it then. The
-- activation is open, was so before, and none was ended since. The journal's verdicts are right beside the frames that
-- its node received by the cut of its record, with bus-off after it where that is what was given back; and in the
-- activation no bus-off was entered
pub record GivesBack {E : Type 0} (e : Ends E) (before j : List Entry) (end : E) : Type 0 where
  pub last : E
  pub same : e.same end last
  pub is_full : e.full last (read_in j)
  pub stood : (h : ℕ → Account) → Kept e.stands before end h → Kept e.stands j last h
  pub is_open : IsOpen j
  pub was_open : IsOpen before
  pub ended : stops_of j ≡ stops_of before
  pub off : Bool
  pub found : List FinishedPiece
  pub cut : IsCut (record_of (j ++ off_as off)) found
  pub verdicts : HasVerdicts j (received found)
  pub on : HasOff (part j (read_in j)) → ⊥

-- with this fault the bit of a node broke off, which had this room and this journal before: there was no room for the
-- entries of the bit; or a put was given back
abbrev pub IsBrokenFor : {E : Type 0} → Ends E → ℕ → Room → List Entry → List Entry → E → BusFault → Type 0
IsBrokenFor e node room before j end (JournalFull k) = (k ≡ node) × IsOutOfRoom room before j
IsBrokenFor e node room before j end (Stuck k) = (k ≡ node) × GivesBack e before j end
IsBrokenFor e node room before j end (BadCredit k bytes) = ⊥
IsBrokenFor e node room before j end (BadOrder k) = ⊥
IsBrokenFor e node room before j end BitsSpent = ⊥

-- ---- a bus

-- the room of a node's journal for a run of so many bits, in which each driver does so many steps
abbrev pub room_for : ℕ → List ℕ → ℕ → Room
room_for bits steps node = room_in bits (slice_index_or steps node 0)

-- the end of a node's links, among those of all nodes
abbrev pub IsEndAt : {E : Type 0} → List E → ℕ → E → Type 0
IsEndAt {E} links node end = (d : E) → slice_index_or links node d ≡ end

-- the fault is of one of its nodes, whose item was refused; no more of its activations have begun than its end has
-- links
pub record IsTakenAndRefused {E : Type 0} (e : Ends E) (bits : ℕ) (steps : List ℕ)
    (before now : List (List Entry)) (links after : List E) (f : BusFault) : Type 0 where
  pub node : ℕ
  pub few : node < length before
  pub end : E
  pub is_end : IsEndAt links node end
  pub end_after : E
  pub is_after : IsEndAt after node end_after
  pub within : HasActivations (e.links end) (journal_at now node)
  pub refuses : RefusesItem e (room_for bits steps node) (journal_at before node) (journal_at now node) end
      end_after node f

-- items of one of its nodes were taken, and then its port ordered an abort that changes the node, and there is no room
-- for its entry. No more of its activations have begun than its end has links
pub record IsNotAborted {E : Type 0} (e : Ends E) (orders_are : ℕ → Orders → Type 0) (bits : ℕ) (steps : List ℕ)
    (before now : List (List Entry)) (links after : List E) (f : BusFault) : Type 0 where
  pub node : ℕ
  pub few : node < length before
  pub is : f ≡ JournalFull node
  pub items : MayHaveItems (journal_at before node) (journal_at now node)
  pub orders : Orders
  pub are_orders : orders_are node orders
  pub ordered : orders.abort ≡ true
  pub due : IsApplied (journal_at now node) true
  pub full : IsFullFor (room_for bits steps node) (journal_at now node) Abort
  pub kept : (d : E) (h : ℕ → Account) → Kept e.stands (journal_at before node) (slice_index_or links node d) h →
      Kept e.stands (journal_at now node) (slice_index_or after node d) h
  pub within : (d : E) → HasActivations (e.links (slice_index_or links node d)) (journal_at now node)

-- of one of its nodes items were taken and an abort was applied or none, and then its bit broke off; each end was the
-- same one still. No more of its activations had begun than its end has links, and where an item was given back, it was
-- given back on one of these links
pub record IsBrokenOff {E : Type 0} (e : Ends E) (orders_are : ℕ → Orders → Type 0) (bits : ℕ) (steps : List ℕ)
    (before now : List (List Entry)) (links : List E) (f : BusFault) : Type 0 where
  pub node : ℕ
  pub few : node < length before
  pub opened : List Entry
  pub between : List E
  pub sames : EachRelated e.same links between
  pub opens : Opens (orders_are node) (journal_at before node) opened
  pub kept : (d : E) (h : ℕ → Account) → Kept e.stands (journal_at before node) (slice_index_or links node d) h →
      Kept e.stands opened (slice_index_or between node d) h
  pub end : E
  pub is_end : IsEndAt between node end
  pub within : HasActivations (e.links end) opened
  pub on_link : f ≡ Stuck node → read_in (journal_at now node) ≤ e.links end
  pub broken : IsBrokenFor e node (room_for bits steps node) opened (journal_at now node) end f

-- why a bit doesn't come to its end
pub data StopsBit {E : Type 0} (e : Ends E) (orders_are : ℕ → Orders → Type 0) (before now : BusValue)
    (links after : List E) (f : BusFault) : Type 0 where
  spent : f ≡ BitsSpent → before.left ≡ 0 → StopsBit e orders_are before now links after f
  not_taken : IsTakenAndRefused e (before.run + before.left) before.steps before.journals now.journals links
      after f →
      StopsBit e orders_are before now links after f
  not_aborted : IsNotAborted e orders_are (before.run + before.left) before.steps before.journals now.journals
      links after f →
      StopsBit e orders_are before now links after f
  broken_off : IsBrokenOff e orders_are (before.run + before.left) before.steps before.journals now.journals links f →
      StopsBit e orders_are before now links after f
