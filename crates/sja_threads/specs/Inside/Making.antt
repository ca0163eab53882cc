-- What a run in threads begins with.
use Rattle.std.specs.Prelude.{◌≡◌, ◌≤◌, ◌<◌, ℕ, false, List, [], length, slice_index_or, vec_capacity}
use Rattle.sja_journal.specs.Lists.{nothing_yet}
use Rattle.sja_rings.specs.declared.node_bus.NodeBus.{NodeBus}
use Rattle.sja_rings.specs.declared.node_driver.NodeDriver.{NodeDriver}
use Rattle.sja_rings.specs.NodeRings.{node_of_driver, NodeBusLists, NodeDriverLists, OneNode}
use Rattle.sja_plan.specs.Plan.{PlanValue, steps_at}
use Rattle.sja_driver.specs.Logs.{HasRoom, IsEmpty, KeepsLog, done_room}
use Rattle.sja_bus_rules.specs.Buses.{new_bus}
use Rattle.sja_threads.specs.declared.thread_start.ThreadStart.{ThreadStart}
use Rattle.sja_threads.specs.declared.port_lists.PortLists.{PortLists}
use Rattle.sja_threads.specs.declared.run_parts.RunParts.{RunParts}
use Rattle.sja_thread_promises.specs.Gathering.{IsBusEnd}
use Rattle.sja_thread_promises.specs.Stopping.{act_counts}

-- the two ends of the links of a node, with nothing on them
pub record AreNewEnds (node : ℕ) (bus : NodeBus) (driver : NodeDriver) : Type 0 where
  pub is_bus : IsBusEnd node bus
  pub bus_lists : (a : ℕ) → NodeBusLists bus a nothing_yet
  pub own : node_of_driver driver ≡ node
  pub driver_lists : (a : ℕ) → NodeDriverLists driver a nothing_yet
  pub one : OneNode bus driver

-- what the thread of a node's driver begins with: its end of the node's links, of which this is the bus's, and an empty
-- log with room for all its steps
pub record IsMade {G : Type 0} (plan : PlanValue) (node : ℕ) (s : ThreadStart G) (bus : NodeBus) : Type 0 where
  pub own : s.node ≡ node
  pub empty : IsEmpty s.log
  pub room : HasRoom plan.version (length (steps_at plan node)) s.log
  pub steps : length (steps_at plan node) ≤ done_room s.log
  pub keeps : KeepsLog s.log
  pub none : s.done.list ≡ []
  pub ends : AreNewEnds node bus s.end

-- the same of the first so many nodes
abbrev pub AreMade : {G : Type 0} → PlanValue → ℕ → List (ThreadStart G) → List NodeBus → Type 0
AreMade {G} plan count starts buses = (node : ℕ) (s : ThreadStart G) (b : NodeBus) → node < count →
    IsMade plan node (slice_index_or starts node s) (slice_index_or buses node b)

-- of the first so many nodes the port's half of a driver's list of acts is that of the driver's half
abbrev pub AreListed : {G : Type 0} → ℕ → List (ThreadStart G) → List PortLists → Type 0
AreListed {G} count starts lists = (node : ℕ) (s : ThreadStart G) (l : PortLists) → node < count →
    (slice_index_or lists node l).acts.name ≡ (slice_index_or starts node s).done.name

-- all that a run of this plan begins with beside the ports
pub record AreRunParts {G : Type 0} (plan : PlanValue) (r : RunParts G) : Type 0 where
  pub bus : r.bus.bus ≡ new_bus plan.strikes plan.bits (length plan.nodes) 64 (act_counts plan)
  pub links : length r.bus.links.items ≡ length plan.nodes
  pub run : r.bus.run ≡ 0
  pub spent : r.bus.spent ≡ false
  pub starts : length r.starts.items ≡ length plan.nodes
  pub made : AreMade plan (length plan.nodes) r.starts.items r.bus.links.items
  pub children : (length plan.nodes ≤ vec_capacity r.children) × (r.children.items ≡ [])
  pub workeds : (length plan.nodes ≤ vec_capacity r.workeds) × (r.workeds.items ≡ [])
