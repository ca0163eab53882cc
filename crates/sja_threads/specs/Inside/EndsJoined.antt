-- The ends of the links of all nodes of a run in threads once all threads are joined.
use Rattle.std.specs.Prelude.{◌≡◌, ◌<◌, ℕ, suc, List, length, slice_index_or}
use Rattle.rtrb.specs.Ring.{sent}
use Rattle.sja_rings.specs.declared.node_bus.NodeBus.{NodeBus}
use Rattle.sja_rings.specs.declared.node_driver.NodeDriver.{NodeDriver}
use Rattle.sja_rings.specs.declared.ring_driver.RingDriver.{RingDriver}
use Rattle.sja_rings.specs.NodeRings.{rings_of_driver, OneNode}
use Rattle.sja_plan.specs.Plan.{PlanValue, steps_at}
use Rattle.sja_regs.specs.DriverSettings.{settings_in}
use Rattle.sja_regs.specs.Registers.{at_power_on}
use Rattle.sja_driver.specs.TypedActs.{given_in, acts_of}
use Rattle.sja_journal.specs.declared.bus_fault.BusFault.{BusFault}
use Rattle.sja_threads.specs.declared.handover.Handover.{Handover}
use Rattle.sja_thread_promises.specs.Accessing.{Work, Follows, acts_done, work_at}
use Rattle.sja_thread_promises.specs.Stopping.{StopsOn, act_counts}

-- of each of so many nodes the bus's end and the driver's come from one pair
pub record AreJoined (nodes : ℕ) (links : List NodeBus) (workeds : List (Handover NodeDriver)) : Type 0 where
  pub links_count : length links ≡ nodes
  pub workeds_count : length workeds ≡ nodes
  pub pairs : (node : ℕ) (b : NodeBus) (w : Handover NodeDriver) → node < nodes →
      OneNode (slice_index_or links node b) (slice_index_or workeds node w).end

-- and what went in at a driver's end of each link is what it gave there by what it did
abbrev pub AreGivenBy : ℕ → List Work → List (Handover NodeDriver) → Type 0
AreGivenBy nodes works workeds = (node a : ℕ) (w : Handover NodeDriver) (d : RingDriver) → node < nodes → a < 64 →
    sent (slice_index_or (rings_of_driver (slice_index_or workeds node w).end) a d).up
    ≡ given_in (acts_of (acts_done (work_at works node)) (suc a))

-- the bus of a run of this plan stopped with this fault, and all threads are joined: what each driver did of its
-- script, and gave
pub record IsStopped (plan : PlanValue) (links : List NodeBus) (workeds : List (Handover NodeDriver)) (f : BusFault) :
    Type 0 where
  pub stop : StopsOn (act_counts plan) plan links f
  pub works : List Work
  pub follows : (node : ℕ) → node < length plan.nodes →
      Follows plan.version (settings_in (at_power_on plan.version)) (steps_at plan node) (work_at works node)
  pub joined : AreJoined (length plan.nodes) links workeds
  pub given : AreGivenBy (length plan.nodes) works workeds
