-- Bits that are run at once, in each of which every node is at rest (this project's own rule).
use Rattle.std.specs.Prelude.{◌≡◌, ◌+◌, ◌<◌, ◌≤◌, ℕ, suc, Bool, true, false, List, ◌++◌, length, map, replicate}
use Rattle.can_levels.specs.declared.level.Level.TheVariants.{Recessive}
use Rattle.sja_journal.specs.declared.entry.Entry.{Entry}
use Rattle.sja_journal.specs.declared.entry.Entry.TheVariants.{Bit}
use Rattle.sja_link.specs.declared.bus_end.BusEnd.{Ghosts as Ends}
use Rattle.sja_journal.specs.Records.{record_of}
use Rattle.sja_steps.specs.declared.strike.Strike.{Strike}
use Rattle.sja_steps.specs.Striking.{Strikes}
use Rattle.sja_regs.specs.declared.orders.Orders.{Orders}
use Rattle.sja_regs.specs.declared.bus_turn.BusTurn.{BusTurn}
use Rattle.sja_journal.specs.declared.bus_fault.BusFault.{BusFault}
use Rattle.sja_journal.specs.declared.bus_fault.BusFault.TheVariants.{JournalFull}
use Rattle.sja_bus_rules.specs.Lawful.{IsBusRun}
use Rattle.sja_bus_rules.specs.Wire.{journal_at}
use Rattle.sja_journal.specs.BitEntries.{MayHaveItems}
use Rattle.sja_bus_rules.specs.Buses.{BusValue, EachJournal, AreOnLinks, KeepsAll, untold_at, IsBit}
use Rattle.sja_bus_rules.specs.Reasons.{room_for}
use Rattle.sja_bus.specs.BusRest.{RestsAs}

-- the entries of so many bits that were driven and seen recessive
abbrev pub recessive_bits : ℕ → List Entry
recessive_bits count = replicate count (Bit Recessive Recessive)

-- the journals with so many such bits more each, and nothing else
abbrev pub with_recessive : ℕ → List (List Entry) → List (List Entry)
with_recessive count journals = map (λ j. j ++ recessive_bits count) journals

-- so many bits of all nodes, one after the other. Nothing was untold of any node; each journal has that many recessive
-- bits more; each of the bits, from the journals before it to those after it, is one bit of all nodes; and what holds
-- of every bus holds before and after each
pub record IsStretch (orders_are : ℕ → Orders → Type 0) (was_told : ℕ → BusTurn → Type 0) (was_kept : ℕ → Type 0)
    (script : List Strike) (run count : ℕ) (untold : List Bool) (before after : List (List Entry)) : Type 0 where
  pub told : (node : ℕ) → node < length before → untold_at untold node ≡ false
  pub grown : after ≡ with_recessive count before
  pub bits : (i : ℕ) → i < count →
      IsBit orders_are was_told was_kept script (run + i) untold (with_recessive i before)
      (with_recessive (suc i) before)
  pub lawful : (i : ℕ) → i ≤ count → IsBusRun script (run + i) (with_recessive i before)

-- why so many bits were run at once, of so many that were asked for, and no more of them, where this is the bus after
-- them: no more were asked for, or are left; or the script strikes one of eight nodes in the next bit; or of a node
-- something is untold, or it isn't at rest
pub data EndsStretch (count n : ℕ) (now : BusValue) : Type 0 where
  asked_for : n ≡ count → EndsStretch count n now
  spent : now.left ≡ 0 → EndsStretch count n now
  struck : (node : ℕ) → node < 8 → Strikes now.script now.run node → EndsStretch count n now
  untold : (node : ℕ) → node < length now.journals → untold_at now.untold node ≡ true → EndsStretch count n now
  busy : (node : ℕ) → node < length now.journals → RestsAs (record_of (journal_at now.journals node)) false →
      EndsStretch count n now

-- with this fault the reserved entries of a node's journal, for a run of so many bits and steps, are used: it has fewer
-- recessive bits more than there are left, and nothing else
pub record IsOutOfEntries (bits : ℕ) (steps : List ℕ) (left : ℕ) (before now : List (List Entry)) (f : BusFault) : Type
    0 where
  pub node : ℕ
  pub few : node < length before
  pub is : f ≡ JournalFull node
  pub entered : ℕ
  pub early : entered < left
  pub grown : journal_at now node ≡ journal_at before node ++ recessive_bits entered
  pub full : (room_for bits steps node).all ≤ length (journal_at now node)

-- of each node what came on its links was taken, and then the reserved entries of one were used. No more activations of
-- a node have begun than there are links for
pub record IsFullInStretch {E : Type 0} (e : Ends E) (starts bits : ℕ) (steps : List ℕ) (left : ℕ)
    (before now : List (List Entry)) (links after : List E) (f : BusFault) : Type 0 where
  pub taken : List (List Entry)
  pub count : length taken ≡ length before
  pub items : EachJournal MayHaveItems before taken
  pub kept : KeepsAll e.stands before taken links after
  pub within : AreOnLinks starts taken
  pub out : IsOutOfEntries bits steps left taken now f
