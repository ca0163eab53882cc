-- The bus of a run in threads from one round to the next, whatever its drivers do meanwhile.
use Rattle.std.specs.Prelude.{◌≡◌, ◌+◌, ◌<◌, ℕ, true, None, List, [], length, slice_index_or}
use Rattle.sja_journal.specs.declared.entry.Entry.{Entry}
use Rattle.sja_journal.specs.Accounts.{Account}
use Rattle.sja_journal.specs.Parts.{part}
use Rattle.sja_journal.specs.Carried.{bits_of, taken_of}
use Rattle.lemmas.specs.Related.{EachRelated}
use Rattle.sja_rings.specs.declared.node_bus.NodeBus.{NodeBus}
use Rattle.sja_rings.specs.NodeRings.{NodeBusLists, SameNodeBus}
use Rattle.sja_plan.specs.Plan.{PlanValue}
use Rattle.sja_journal.specs.Links.{Kept}
use Rattle.sja_journal.specs.declared.bus_fault.BusFault.{BusFault}
use Rattle.sja_bus_rules.specs.Wire.{journal_at}
use Rattle.sja_log.specs.declared.end.End.{End}
use Rattle.sja_threads.specs.declared.bus_thread.BusThread.{BusThread}
use Rattle.sja_thread_promises.specs.Gathering.{AreBusEnds}
use Rattle.sja_thread_promises.specs.Needed.{IsBitDue, AllDue, EndsDuly}
use Rattle.sja_thread_promises.specs.Stopping.{StopsOn}

-- no item was taken before the first activation
abbrev pub TakesNoneBefore : List Entry → Type 0
TakesNoneBefore j = taken_of (part j 0) ≡ []

-- each journal has so many bits
abbrev pub EachHas : ℕ → List (List Entry) → Type 0
EachHas bits journals = (node : ℕ) → node < length journals → length (bits_of (journal_at journals node)) ≡ bits

-- a bit that was due by these journals was due by those too
abbrev pub StayDue : PlanValue → List NodeBus → List (List Entry) → List (List Entry) → Type 0
StayDue plan ends before after = (bits : ℕ) → IsBitDue plan ends bits before → IsBitDue plan ends bits after

-- the bus of a run of this plan without a fault, and its ends of the links of all nodes, which stand for the parts of
-- the journals, whatever the drivers got and gave, and are the same as at first; each bit so far was due, and where the
-- bits are spent one more was
pub record IsUnderWay (plan : PlanValue) (t : BusThread) : Type 0 where
  pub right : t.bus.fault ≡ None
  pub script : t.bus.script ≡ plan.strikes
  pub all_bits : t.bus.run + t.bus.left ≡ plan.bits
  pub journals : length t.bus.journals ≡ length plan.nodes
  pub ends : AreBusEnds (length plan.nodes) t.links.items
  pub links : t.bus.starts ≡ 64
  pub kept : (node : ℕ) (b : NodeBus) (h : ℕ → Account) → node < length plan.nodes →
      Kept NodeBusLists (journal_at t.bus.journals node) (slice_index_or t.links.items node b) h
  pub none : (node : ℕ) → node < length plan.nodes → TakesNoneBefore (journal_at t.bus.journals node)
  pub first : List NodeBus
  pub since : EachRelated SameNodeBus first t.links.items
  pub due : AllDue plan first t.bus.run t.bus.journals
  pub run : t.bus.run ≡ t.run
  pub spent : t.spent ≡ true → (t.run ≡ plan.bits) × IsBitDue plan first plan.bits t.bus.journals

-- it went on with the same ends, and with room for as many steps
pub record GoesOn (plan : PlanValue) (was now : BusThread) : Type 0 where
  pub way : IsUnderWay plan now
  pub steps : now.bus.steps ≡ was.bus.steps
  pub sames : EachRelated SameNodeBus was.links.items now.links.items

-- it stopped with this fault, with the same ends
pub record Stops (plan : PlanValue) (was now : BusThread) (f : BusFault) : Type 0 where
  pub stop : StopsOn was.bus.steps plan now.links.items f
  pub sames : EachRelated SameNodeBus was.links.items now.links.items

-- it went on to the end of the run, which is this one
pub record EndsAs (plan : PlanValue) (was now : BusThread) (end : End) : Type 0 where
  pub on : GoesOn plan was now
  pub duly : EndsDuly plan on.way.first end now.run now.bus.journals
