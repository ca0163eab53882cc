-- Bits of a bus, one after another: each goes on with the bus, the links and the ports that the one before it left
-- (this project's own rule).
use Rattle.std.specs.Prelude.{◌≡◌, ◌<◌, ℕ, suc, true, false, Bool, List, length}
use Rattle.sja_journal.specs.declared.entry.Entry.{Entry}
use Rattle.sja_journal.specs.Records.{record_of}
use Rattle.sja_link.specs.declared.bus_end.BusEnd.{Ghosts as Ends}
use Rattle.sja_regs.specs.declared.orders.Orders.{Orders}
use Rattle.sja_bus.specs.declared.board.Board.{Ghosts as Ports}
use Rattle.sja_journal.specs.declared.bus_fault.BusFault.{BusFault}
use Rattle.sja_bus.specs.Moment.{Moment, OneBit}
use Rattle.sja_bus_rules.specs.Reasons.{StopsBit}
use Rattle.sja_bus.specs.BusRest.{RestsAs}
use Rattle.sja_bus.specs.TakingAll.{TakesAll}
use Rattle.sja_bus_rules.specs.Wire.{journal_at}

-- every node is at rest at the end of its journal
abbrev pub AllRest : List (List Entry) → Type 0
AllRest journals = (node : ℕ) → node < length journals → RestsAs (record_of (journal_at journals node)) true

-- some node isn't
abbrev pub SomeWork : List (List Entry) → Type 0
SomeWork journals =
    (node : ℕ) × (node < length journals) × RestsAs (record_of (journal_at journals node)) false

-- so many bits, each of which, by its number from 0 on, is such a bit, and before each of which this held
pub data AreBits {E B : Type 0} (One : ℕ → Moment E B → Moment E B → Type 0) (Before : Moment E B → Type 0) :
    Moment E B → ℕ → Moment E B → Type 0 where
  no_bit : (m : Moment E B) → AreBits One Before m 0 m
  one_more : (was mid now : Moment E B) (n : ℕ) → AreBits One Before was n mid → Before mid → One n mid now →
      AreBits One Before was (suc n) now

-- the bit of this number of one call: a bit that went well; and right before the first one all was taken that the links
-- showed
pub record BitInOrder {E B : Type 0} (e : Ends E) (b : Ports B) (n : ℕ) (was now : Moment E B) : Type 0 where
  pub bit : OneBit e b was now
  pub takes : n ≡ 0 → TakesAll e was.bus.journals now.bus.journals was.links

-- some node works, where that was asked for
abbrev pub WorksIf : {E B : Type 0} → Bool → Moment E B → Type 0
WorksIf to_rest m = to_rest ≡ true → SomeWork m.bus.journals

-- fewer than so many bits, and then the next one didn't come to its end, with this fault; it isn't counted
pub record BreaksOff {E B : Type 0} (e : Ends E) (orders_are : B → ℕ → Orders → Type 0)
    (One : ℕ → Moment E B → Moment E B → Type 0) (Before : Moment E B → Type 0) (count : ℕ) (was now : Moment E B)
    (f : BusFault) : Type 0 where
  pub mid : Moment E B
  pub run : ℕ
  pub early : run < count
  pub bits : AreBits One Before was run mid
  pub before : Before mid
  pub stops : StopsBit e (orders_are mid.board) mid.bus now.bus mid.links now.links f
  pub run_so_far : now.bus.run ≡ mid.bus.run
  pub left_so_far : now.bus.left ≡ mid.bus.left

-- so many bits over ends of links and ports of these kinds, before each of which some node works, where that was asked
-- for
abbrev pub RunsBits : {E B : Type 0} → Ends E → Ports B → Bool → Moment E B → ℕ → Moment E B → Type 0
RunsBits e b to_rest = AreBits (BitInOrder e b) (WorksIf to_rest)

-- fewer than so many of these bits, and then one that didn't come to its end, with this fault
abbrev pub StopsBits : {E B : Type 0} → Ends E → Ports B → Bool → ℕ → Moment E B → Moment E B → BusFault → Type 0
StopsBits e b to_rest = BreaksOff e b.orders_are (BitInOrder e b) (WorksIf to_rest)
