-- All nodes of a bus, by their journals (this project's own rule).
use Rattle.std.specs.Prelude.{◌≡◌, ◌⊎◌, ◌<◌, ℕ, Bool, false, Option}
use Rattle.std.specs.Prelude.{None, List, [], length, replicate, slice_index_or}
use Rattle.can_levels.specs.declared.level.Level.{Level}
use Rattle.can_levels.specs.declared.level.Level.TheVariants.{Recessive}
use Rattle.sja_journal.specs.declared.entry.Entry.{Entry}
use Rattle.sja_journal.specs.Lists.{Lists}
use Rattle.sja_journal.specs.Accounts.{Account}
use Rattle.sja_steps.specs.declared.strike.Strike.{Strike}
use Rattle.sja_steps.specs.Striking.{Strikes}
use Rattle.sja_regs.specs.declared.orders.Orders.{Orders}
use Rattle.sja_regs.specs.declared.bus_turn.BusTurn.{BusTurn}
use Rattle.sja_journal.specs.declared.bus_fault.BusFault.{BusFault}
use Rattle.can_levels.specs.BusLevel.{wired}
use Rattle.sja_bus_rules.specs.Wire.{IsSeen, journal_at}
use Rattle.sja_journal.specs.Links.{Kept}
use Rattle.sja_journal.specs.Activations.{HasActivations}
use Rattle.sja_journal.specs.OutOfOrder.{read_in}
use Rattle.sja_bus_rules.specs.Opens.{Opens}
use Rattle.sja_journal.specs.BitEntries.{HasBit}
use Rattle.sja_bus_rules.specs.Telling.{IsTurn, IsPassedOver, IsUntold}

-- what a contract sees of a bus: its script, for how many activations of each node there are links, for how many steps
-- of each driver it has room, the bits that were run and those that are left, the fault that it answers always, the
-- journals of its nodes, and by node whether something was taken or an abort changed the node since its port was told
-- last
pub record BusValue : Type 0 where
  pub script : List Strike
  pub starts : ℕ
  pub steps : List ℕ
  pub run : ℕ
  pub left : ℕ
  pub fault : Option BusFault
  pub journals : List (List Entry)
  pub untold : List Bool

-- a bus of so many nodes to which nothing has happened, with links for so many activations of each, for a run of so
-- many bits, in which each driver does so many steps
abbrev pub new_bus : List Strike → ℕ → ℕ → ℕ → List ℕ → BusValue
new_bus script bits nodes starts steps =
    record {
      script = script;
      starts = starts;
      steps = steps;
      run = 0;
      left = bits;
      fault = None;
      journals = replicate nodes [];
      untold = replicate nodes false;
    }

-- whether something is untold of a node
abbrev pub untold_at : List Bool → ℕ → Bool
untold_at untold node = slice_index_or untold node false

-- each journal is so related to what it was
abbrev pub EachJournal : (List Entry → List Entry → Type 0) → List (List Entry) → List (List Entry) → Type 0
EachJournal R before after =
    (node : ℕ) → node < length before → R (journal_at before node) (journal_at after node)

-- of each node, and whatever its driver got and gave: its links stand for its journal now, where they did before
abbrev pub KeepsAll : {E : Type 0} → (E → ℕ → Lists → Type 0) → List (List Entry) → List (List Entry) →
    List E → List E → Type 0
KeepsAll {E} stands before after links links_after =
    (node : ℕ) (d : E) (h : ℕ → Account) → node < length before →
    Kept stands (journal_at before node) (slice_index_or links node d) h →
    Kept stands (journal_at after node) (slice_index_or links_after node d) h

-- of each node no more activations have begun than there are links for, and each item was of one of these links
abbrev pub AreOnLinks : ℕ → List (List Entry) → Type 0
AreOnLinks starts journals = (node : ℕ) → node < length journals → HasActivations starts (journal_at journals node)

-- the link of each node that is read shows nothing upward
abbrev pub AllDry : {E : Type 0} → (E → ℕ → Type 0) → List (List Entry) → List E → Type 0
AllDry {E} dry journals links =
    (node : ℕ) (d : E) → node < length journals →
    dry (slice_index_or links node d) (read_in (journal_at journals node))

-- of each node something is untold where it was before, or items were taken
abbrev pub EachUntold : List Bool → List Bool → List (List Entry) → List (List Entry) → Type 0
EachUntold untold now before after = (node : ℕ) → node < length before →
    IsUntold (untold_at untold node) (untold_at now node) (journal_at before node) (journal_at after node)

-- nothing is untold of so many nodes
abbrev pub AllTold : ℕ → List Bool → Type 0
AllTold nodes untold = untold ≡ replicate nodes false

-- nothing changed: neither the bus nor a link nor a port
abbrev pub IsStill : {E B : Type 0} → BusValue → BusValue → List E → List E → B → B → Type 0
IsStill bus now links links_now board board_now = (now ≡ bus) × (links_now ≡ links) × (board_now ≡ board)

-- one bit of a node: its items were taken, then an abort changed it or none did, then it drove and saw these levels,
-- and its port was told the turn of the bit, or passed over where there was nothing to tell
pub record IsNodeBit (has_orders : Orders → Type 0) (was_told : BusTurn → Type 0) (was_kept : Type 0) (untold : Bool)
    (j k : List Entry) (driven seen : Level) : Type 0 where
  pub opened : List Entry
  pub opens : Opens has_orders j opened
  pub bit : HasBit opened driven seen k
  pub turn : BusTurn
  pub is_turn : IsTurn opens.aborts.changed opened driven seen k bit turn
  pub port : was_told turn ⊎ IsPassedOver was_kept untold j opened turn

-- one bit of all nodes: each saw what all drove together, or the other level where the script strikes it
pub record IsBit (orders_are : ℕ → Orders → Type 0) (was_told : ℕ → BusTurn → Type 0) (was_kept : ℕ → Type 0)
    (script : List Strike) (n : ℕ) (untold : List Bool) (before after : List (List Entry)) : Type 0 where
  pub driven : List Level
  pub seen : ℕ → Level
  pub count : length driven ≡ length before
  pub nodes : (node : ℕ) → node < length before →
      IsNodeBit (orders_are node) (was_told node) (was_kept node) (untold_at untold node) (journal_at before node)
      (journal_at after node) (slice_index_or driven node Recessive) (seen node)
  pub sees : (node : ℕ) → node < length before → IsSeen (Strikes script n node) (wired driven) (seen node)
