-- A controller of many whose item was refused.
use Rattle.std.specs.Prelude.{◌≡◌, ◌-◌, ◌<◌, ◌≤◌, ℕ, List, length, slice_index_or}
use Rattle.sja_link.specs.declared.bus_end.BusEnd.{Ghosts as Ends}
use Rattle.sja_regs.specs.declared.orders.Orders.{Orders}
use Rattle.sja_journal.specs.Written.{Room}
use Rattle.sja_journal.specs.declared.bus_fault.BusFault.{BusFault}
use Rattle.sja_journal.specs.declared.bus_fault.BusFault.TheVariants.{JournalFull}
use Rattle.sja_bus.specs.declared.bus_node.BusNode.{BusNode}
use Rattle.sja_bus_rules.specs.Reasons.{RefusesItem, IsBrokenFor, IsEndAt}
use Rattle.sja_bus.specs.Inside.Taking.{FullForAbort}
use Rattle.sja_bus.specs.Inside.Rows.{EachBusNode, BusNodeBegins, BusNodeOpens, GoesAll}

-- each journal has this room, by the number of its node
abbrev pub HaveRoom : (ℕ → Room) → List BusNode → Type 0
HaveRoom n bus_nodes = (k : ℕ) (s : BusNode) → k < length bus_nodes → (slice_index_or bus_nodes k s).journal.room ≡ n k

-- each journal has room for so many further entries
abbrev pub AreFree : ℕ → List BusNode → Type 0
AreFree n bus_nodes = (k : ℕ) (s : BusNode) → k < length bus_nodes →
    n ≤ (slice_index_or bus_nodes k s).journal.room.all - length (slice_index_or bus_nodes k s).journal.entries

-- an item of one of them was refused with this fault
pub record BusNodeRefuses {E : Type 0} (e : Ends E) (bus_nodes now : List BusNode) (links after : List E) (f : BusFault)
    : Type 0 where
  pub node : ℕ
  pub few : node < length bus_nodes
  pub end : E
  pub is_end : IsEndAt links node end
  pub end_after : E
  pub is_after : IsEndAt after node end_after
  pub refuses : (s : BusNode) → RefusesItem e (slice_index_or bus_nodes node s).journal.room
      (slice_index_or bus_nodes node s).journal.entries (slice_index_or now node s).journal.entries end end_after node f

-- the entry of an abort found no room in the journal of one
pub record BusNodeFull {E : Type 0} (e : Ends E) (orders_are : ℕ → Orders → Type 0) (bus_nodes now : List BusNode)
    (links after : List E) (f : BusFault) : Type 0 where
  pub node : ℕ
  pub few : node < length bus_nodes
  pub is : f ≡ JournalFull node
  pub end : E
  pub is_end : IsEndAt links node end
  pub end_after : E
  pub is_after : IsEndAt after node end_after
  pub full : (s : BusNode) → FullForAbort e (orders_are node) (slice_index_or bus_nodes node s)
      (slice_index_or now node s) end end_after f

-- the bit of one of them broke off
pub record BusNodeBreaks {E : Type 0} (e : Ends E) (bus_nodes now : List BusNode) (links : List E)
    (f : BusFault) : Type 0 where
  pub node : ℕ
  pub few : node < length bus_nodes
  pub end : E
  pub is_end : IsEndAt links node end
  pub broken : (s : BusNode) → IsBrokenFor e node (slice_index_or bus_nodes node s).journal.room
      (slice_index_or bus_nodes node s).journal.entries (slice_index_or now node s).journal.entries end f

-- the bit of one broke off, after what came on its links was taken of all, and aborts were applied. Of none an
-- activation began whose link its end doesn't have
pub record BusNodeStops {E : Type 0} (e : Ends E) (orders_are : ℕ → Orders → Type 0) (bus_nodes now : List BusNode)
    (links : List E) (f : BusFault) : Type 0 where
  pub opened : List BusNode
  pub between : List E
  pub count : length opened ≡ length bus_nodes
  pub opens : EachBusNode (BusNodeOpens orders_are) bus_nodes opened
  pub goes : GoesAll e.same e.stands bus_nodes opened links between
  pub begins : EachBusNode (BusNodeBegins e.links links) bus_nodes opened
  pub rooms : (n : ℕ → Room) → HaveRoom n bus_nodes → HaveRoom n opened
  pub breaks : BusNodeBreaks e opened now between f
