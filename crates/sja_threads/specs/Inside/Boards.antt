-- The lists of what the bus of a run in threads has told, by node.
use Rattle.std.specs.Prelude.{◌≡◌, ◌<◌, ◌≤◌, ◌++◌, ◌∷◌, ℕ, Bool, true, List, [], length, map, slice_index_or, All}
use Rattle.sja_journal.specs.declared.entry.Entry.{Entry}
use Rattle.sja_regs.specs.declared.orders.Orders.{Orders}
use Rattle.sja_plan.specs.Plan.{PlanValue, steps_at}
use Rattle.sja_bus_rules.specs.Wire.{journal_at}
use Rattle.sja_threads.specs.declared.order.Order.{Ghosts as PortOrders}
use Rattle.sja_thread_promises.specs.declared.port_update.PortUpdate.{PortUpdate}
use Rattle.sja_thread_promises.specs.declared.port_update.PortUpdate.TheVariants.{Ran, Spent}
use Rattle.sja_thread_promises.specs.Ordering.{TellsPort, HasBegun, closed_told, ended_told}
use Rattle.sja_threads.specs.declared.turns_of_node.TurnsOfNode.{TurnsOfNode}

abbrev pub turns_in : {N : Type 0} {o : PortOrders N} → List (TurnsOfNode N o) → List (List PortUpdate)
turns_in {N} {o} told = map (λ (t : TurnsOfNode N o). t.known.list) told

-- what the port of a node was told
abbrev pub turns_at : List (List PortUpdate) → ℕ → List PortUpdate
turns_at turns node = slice_index_or turns node []

-- as these journals of a run of this plan came to be the bus told each node's port this
abbrev pub AreTold : PlanValue → List (List Entry) → List (List PortUpdate) → Type 0
AreTold plan journals turns = (node : ℕ) → node < length journals →
    TellsPort plan.bits (steps_at plan node) (journal_at journals node) (turns_at turns node)

-- the first so many ports were told one thing more, of this kind, and the others nothing
pub record FirstTold (IsMore : PortUpdate → Type 0) (many : ℕ) (before after : List (List PortUpdate)) : Type 0 where
  pub told : (k : ℕ) → k < many →
      (more : PortUpdate) × IsMore more × (turns_at after k ≡ turns_at before k ++ more ∷ [])
  pub others : (k : ℕ) → many ≤ k → turns_at after k ≡ turns_at before k

-- each port was
abbrev pub EachTold : (PortUpdate → Type 0) → List (List PortUpdate) → List (List PortUpdate) → Type 0
EachTold IsMore before after = (node : ℕ) → node < length before →
    (more : PortUpdate) × IsMore more × (turns_at after node ≡ turns_at before node ++ more ∷ [])

-- how many bits have run; and that none are left
abbrev pub SaysBits : ℕ → PortUpdate → Type 0
SaysBits bits more = (orders : Orders) × (more ≡ Ran bits orders)

abbrev pub SaysSpent : PortUpdate → Type 0
SaysSpent more = more ≡ Spent

-- of each of so many nodes the driver was found to have ended
abbrev pub AllEnded : ℕ → List (List PortUpdate) → Type 0
AllEnded nodes turns = (node : ℕ) → node < nodes → ended_told (turns_at turns node) ≡ true

-- and whether its port was told that no bits are left
abbrev pub AreClosed : ℕ → Bool → List (List PortUpdate) → Type 0
AreClosed nodes closed turns = (node : ℕ) → node < nodes → closed_told (turns_at turns node) ≡ closed

abbrev pub StayClosed : ℕ → List (List PortUpdate) → List (List PortUpdate) → Type 0
StayClosed nodes before after = (closed : Bool) → AreClosed nodes closed before → AreClosed nodes closed after

-- each node has begun
abbrev pub AllBegun : PlanValue → List (List Entry) → List (List PortUpdate) → Type 0
AllBegun plan journals turns = (node : ℕ) → node < length journals →
    HasBegun (steps_at plan node) (journal_at journals node) (turns_at turns node)

-- no port was told anything yet
abbrev pub NoneTold : {N : Type 0} {o : PortOrders N} → List (TurnsOfNode N o) → Type 0
NoneTold {N} {o} told = All (λ (t : TurnsOfNode N o). t.known.list ≡ []) told
