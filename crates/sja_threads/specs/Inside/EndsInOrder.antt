-- A run in threads once all threads are joined: the lists of what came at its ports.
use Rattle.std.specs.Prelude.{◌≡◌, ◌<◌, ℕ, List, length, slice_index_or}
use Rattle.sja_rings.specs.declared.node_driver.NodeDriver.{NodeDriver}
use Rattle.sja_regs.specs.declared.registers.Registers.{Registers}
use Rattle.sja_plan.specs.Plan.{PlanValue}
use Rattle.sja_threads.specs.declared.order.Order.{Ghosts as Orders}
use Rattle.sja_threads.specs.declared.joined_run.JoinedRun.{JoinedRun}
use Rattle.sja_thread_promises.specs.declared.port_update.PortUpdate.{PortUpdate}
use Rattle.sja_threads.specs.declared.turns_of_node.TurnsOfNode.{TurnsOfNode}
use Rattle.sja_threads.specs.declared.handover.Handover.{Handover}
use Rattle.sja_thread_promises.specs.Ordering.{LedBy}
use Rattle.sja_threads.specs.Inside.Boards.{AllEnded, AreClosed, AreTold, turns_at, turns_in}
use Rattle.sja_threads.specs.Inside.Names.{IsNamed}

-- the bus told each port by the journals, to a list for each node, closed it where its bits are spent, and found that
-- its driver has ended; and each driver has its node's list of acts
pub record IsEndingInOrder {N : Type 0} {o : Orders N} (names : List ℕ) (plan : PlanValue) (j : JoinedRun)
    (lists : List (TurnsOfNode N o)) : Type 0 where
  pub told : AreTold plan j.bus.bus.journals (turns_in lists)
  pub many : length lists ≡ length plan.nodes
  pub closed : AreClosed (length plan.nodes) j.bus.spent (turns_in lists)
  pub ended : AllEnded (length plan.nodes) (turns_in lists)
  pub named : (node : ℕ) (w : Handover NodeDriver) → node < length plan.nodes →
      IsNamed names node (slice_index_or j.workeds.items node w).done.name

-- of each of so many nodes what was told and the acts of which its driver handed the list back lead to some registers
abbrev pub AreInOrder : ℕ → ℕ → List (List PortUpdate) → List (Handover NodeDriver) → Type 0
AreInOrder version nodes turns workeds = (node : ℕ) (w : Handover NodeDriver) → node < nodes →
    (p : Registers) × LedBy version (turns_at turns node) (slice_index_or workeds node w).done.list p
