-- A bus with its links and its ports, before a bit and after it (this project's own rule).
use Rattle.std.specs.Prelude.{◌≡◌, ◌+◌, ◌<◌, ℕ, List, length, None}
use Rattle.sja_link.specs.declared.bus_end.BusEnd.{Ghosts as Ends}
use Rattle.lemmas.specs.Related.{EachRelated}
use Rattle.sja_bus.specs.declared.board.Board.{Ghosts as Ports}
use Rattle.sja_bus.specs.Boards.{KeepsOthers}
use Rattle.sja_journal.specs.declared.entry.Entry.{Entry}
use Rattle.sja_bus_rules.specs.Buses.{BusValue, KeepsAll, AreOnLinks, AllTold, IsBit}
use Rattle.sja_bus_rules.specs.Lawful.{IsBusRun}

-- a bus with its links and its ports, between two bits
pub record Moment (E B : Type 0) : Type 0 where
  pub bus : BusValue
  pub links : List E
  pub board : B

-- this bus with these links and ports
abbrev pub moment : {E B : Type 0} → BusValue → List E → B → Moment E B
moment bus links board = record { bus = bus; links = links; board = board }

-- what bits keep, also one that didn't come to its end: which ends the links are, each port that is of no node of the
-- bus, the script, for how many activations there are links, the room for steps, and how many nodes there are
pub record Keeps {E B : Type 0} (e : Ends E) (b : Ports B) (was now : Moment E B) : Type 0 where
  pub sames : EachRelated e.same was.links now.links
  pub others : KeepsOthers b.ports b.kept (length was.bus.journals) was.board now.board
  pub script : now.bus.script ≡ was.bus.script
  pub starts : now.bus.starts ≡ was.bus.starts
  pub steps : now.bus.steps ≡ was.bus.steps
  pub nodes : length now.bus.journals ≡ length was.bus.journals

-- the next bit of a bus, whose ports were as they were before and are as they are now
abbrev pub IsBitOf : {B : Type 0} → Ports B → B → B → BusValue → List (List Entry) → Type 0
IsBitOf p was now bus after =
    IsBit (p.orders_are was) (p.told was now) (p.kept was now) bus.script bus.run bus.untold bus.journals after

-- one bit, which went well: it keeps what every bit keeps, and it is counted; the links stand for the journals still,
-- and no more activations of a node have begun than there are links for; all nodes had the bit, and nothing is untold
-- of any; there is no fault; and what holds of every bus and of every node's port holds after it
pub record OneBit {E B : Type 0} (e : Ends E) (b : Ports B) (was now : Moment E B) : Type 0 where
  pub keeps : Keeps e b was now
  pub run : now.bus.run ≡ was.bus.run + 1
  pub left : now.bus.left + 1 ≡ was.bus.left
  pub kept : KeepsAll e.stands was.bus.journals now.bus.journals was.links now.links
  pub within : AreOnLinks now.bus.starts now.bus.journals
  pub bit : IsBitOf b was.board now.board was.bus now.bus.journals
  pub told : AllTold (length was.bus.journals) now.bus.untold
  pub right : now.bus.fault ≡ None
  pub lawful : IsBusRun now.bus.script now.bus.run now.bus.journals
  pub facts : (node : ℕ) → node < length was.bus.journals → b.facts now.board node
