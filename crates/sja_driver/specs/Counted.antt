-- How many entries a journal can have by the acts of its driver (this project's own rule). Each item and each abort
-- goes back to an act, and each bus-off to an activation; so the entries reserved for a run suffice.
use Rattle.std.specs.Prelude.{◌≤◌, ◌+◌, ◌*◌, ℕ, Bool, true, false, if◌then◌else◌, Option, Some, None, List, length}
use Rattle.can_node_rules.specs.declared.request.Request.{Request}
use Rattle.can_node_rules.specs.Context.{ContextValue}
use Rattle.can_node_rules.specs.NextBit.{now_in}
use Rattle.sja_journal.specs.NodeWords.{FinishedPiece, IsCut}
use Rattle.sja_journal.specs.declared.entry.Entry.{Entry}
use Rattle.sja_journal.specs.declared.entry.Entry.TheVariants.{Bit, Up as Item, Abort, Stored, Overrun, Off}
use Rattle.lemmas.specs.Gathering.{total}
use Rattle.sja_journal.specs.Places.{place_of}
use Rattle.sja_journal.specs.Records.{record_of}
use Rattle.sja_regs.specs.declared.registers.Registers.{Registers}
use Rattle.sja_driver.specs.TypedActs.{TypedAct}
use Rattle.sja_driver.specs.Carried.{asks_abort}

-- ---- entries

-- 1 for an item that was taken
abbrev pub item_in : Entry → ℕ
item_in (Item item) = 1
item_in (Bit driven seen) = 0
item_in Abort = 0
item_in (Stored m) = 0
item_in (Overrun m) = 0
item_in Off = 0

-- 1 for bus-off
abbrev pub off_in : Entry → ℕ
off_in Off = 1
off_in (Bit driven seen) = 0
off_in (Item item) = 0
off_in Abort = 0
off_in (Stored m) = 0
off_in (Overrun m) = 0

-- 1 for an abort that changed the node
abbrev pub abort_in : Entry → ℕ
abort_in Abort = 1
abort_in (Bit driven seen) = 0
abort_in (Item item) = 0
abort_in (Stored m) = 0
abort_in (Overrun m) = 0
abort_in Off = 0

-- ---- acts

-- 1 for an act that asks for an abort
abbrev pub asks_by : TypedAct → ℕ
asks_by d = if asks_abort d.step d.answer then 1 else 0

abbrev pub gave_by : TypedAct → ℕ
gave_by d = length d.gave

-- ---- what an abort that stands can change still: it can mark the request that is held, and drop it

abbrev pub changes_left : Option Request → Bool → ℕ
changes_left None marked = 0
changes_left (Some request) true = 1
changes_left (Some request) false = 2

abbrev pub pending : Bool → ContextValue → ℕ
pending stands c = if stands then changes_left c.held c.aborted else 0

-- 1 where the last activation that has begun didn't go bus-off yet
abbrev pub off_left : List Entry → ℕ
off_left j = if (place_of j).off then 0 else 1

-- the entries of a node's journal, by kinds: an activation goes bus-off once at most
pub record IsCounted (j : List Entry) (acts : List TypedAct) (p : Registers) : Type 0 where
  pub items : total item_in j ≤ total gave_by acts
  pub offs : total off_in j + off_left j ≤ (place_of j).activation + 1
  pub aborts : (found : List FinishedPiece) (cut : IsCut (record_of j) found) →
      total abort_in j + pending p.abort (now_in cut) ≤ 2 * total asks_by acts
