-- Why a run in threads has no log (this project's own rule).
use Rattle.std.specs.Prelude.{◌≡◌, ◌≢◌, ◌≤◌, ◌+◌, ◌<◌, ◌⊎◌, ◌++◌, ℕ, suc, None, List, length, map, slice_index_or}
use Rattle.rtrb.specs.Ring.{received, sent}
use Rattle.lemmas.specs.Related.{EachRelated}
use Rattle.sja_link.specs.declared.bus_end.BusEnd.{Ghosts as Ends}
use Rattle.sja_journal.specs.declared.up.Up.{Up}
use Rattle.sja_rings.specs.declared.ended_bus.EndedBus.{EndedBus}
use Rattle.sja_rings.specs.declared.ended_driver.EndedDriver.{EndedDriver}
use Rattle.sja_rings.specs.declared.node_bus.NodeBus.{NodeBus}
use Rattle.sja_rings.specs.declared.ring_bus.RingBus.{RingBus}
use Rattle.sja_rings.specs.declared.ring_driver.RingDriver.{RingDriver}
use Rattle.sja_rings.specs.Ended.{EndsBus, EndsDriver, HasBusNote, HasDriverNote}
use Rattle.sja_rings.specs.Ends.{OneLink, link_of_bus}
use Rattle.sja_rings.specs.NodeRings.{node_of_bus, links_of_bus, rings_of_bus, NodeBusLists, SameNodeBus}
use Rattle.sja_rings.specs.NodeRings.{HasNoPlaceDown, ShowsNothingUp}
use Rattle.sja_plan.specs.Plan.{PlanValue, steps_at}
use Rattle.sja_driver.specs.StepRuns.{most_acts}
use Rattle.sja_driver.specs.TypedActs.{given_in, acts_of}
use Rattle.sja_regs.specs.declared.orders.Orders.{Orders}
use Rattle.sja_regs.specs.DriverSettings.{settings_in}
use Rattle.sja_regs.specs.Registers.{at_power_on}
use Rattle.sja_journal.specs.declared.bus_fault.BusFault.{BusFault}
use Rattle.sja_journal.specs.declared.bus_fault.BusFault.TheVariants.{BitsSpent}
use Rattle.sja_bus_rules.specs.Buses.{BusValue}
use Rattle.sja_bus_rules.specs.Lawful.{IsBusRun}
use Rattle.sja_bus_rules.specs.Reasons.{IsTakenAndRefused, StopsBit}
use Rattle.sja_log.specs.declared.run_fault.RunFault.{RunFault}
use Rattle.sja_log.specs.declared.run_fault.RunFault.TheVariants.{Memory, GateCount, Bus, Thread, Unsettled}
use Rattle.sja_thread_promises.specs.Accessing.{Work, Follows, acts_done, work_at}
use Rattle.sja_thread_promises.specs.Gathering.{AreBusEnds, StandFor}

-- what the bus's end of a node's links is, as a bus sees it
abbrev pub ring_ends : Ends NodeBus
ring_ends = record {
  node = node_of_bus;
  links = links_of_bus;
  stands = NodeBusLists;
  same = SameNodeBus;
  full = HasNoPlaceDown;
  dry = ShowsNothingUp;
}

-- whatever a driver orders at a port behind its lock
abbrev pub any_orders : ℕ → Orders → Type 0
any_orders node orders = Unit {0}

-- the bus of a run of this plan whose drivers may do so many acts, by node, without a fault so far, stopped with
-- this one: it didn't take an item of a driver, or a bit didn't come to its end; it isn't that the bits were spent. Its
-- ends of the links stood for its journals before, and are these ones now, each the same end of the same links
pub record StopsOn (counts : List ℕ) (plan : PlanValue) (after : List NodeBus) (f : BusFault) : Type 0 where
  pub was : BusValue
  pub now : BusValue
  pub links : List NodeBus
  pub script : was.script ≡ plan.strikes
  pub starts : was.starts ≡ 64
  pub steps : was.steps ≡ counts
  pub bits : was.run + was.left ≡ plan.bits
  pub nodes : length was.journals ≡ length plan.nodes
  pub right : was.fault ≡ None
  pub lawful : IsBusRun was.script was.run was.journals
  pub stood : StandFor plan was.journals links
  pub sames : EachRelated SameNodeBus links after
  pub why : IsTakenAndRefused ring_ends plan.bits counts was.journals now.journals links after f
      ⊎ StopsBit ring_ends any_orders was now links after f
  pub not_spent : f ≢ BitsSpent
  pub ends : AreBusEnds (length plan.nodes) after

-- how many acts each driver of a plan may do, by node
abbrev pub act_counts : PlanValue → List ℕ
act_counts plan = map (λ steps. most_acts plan.version (length steps)) plan.nodes

-- what came out of the bus's end of a link is a front of these items
abbrev pub CameFirst : RingBus → List Up → Type 0
CameFirst b items = (rest : List Up) × (items ≡ received b.up ++ rest)

-- the bus of a run of this plan stopped so. Of its drivers there is what each did of its script, and of the link of
-- each activation what came out at the bus, an item that wasn't taken among it, is a front of what the driver gave
pub record StopsWith (plan : PlanValue) (f : BusFault) : Type 0 where
  pub after : List NodeBus
  pub stop : StopsOn (act_counts plan) plan after f
  pub works : List Work
  pub follows : (node : ℕ) → node < length plan.nodes →
      Follows plan.version (settings_in (at_power_on plan.version)) (steps_at plan node) (work_at works node)
  pub came : (node a : ℕ) (b : NodeBus) (x : RingBus) → node < length plan.nodes → a < 64 →
      CameFirst (slice_index_or (rings_of_bus (slice_index_or after node b)) a x)
      (given_in (acts_of (acts_done (work_at works node)) (suc a)))

-- ---- a link that isn't settled

-- the two ends of a link gave no account: the ring of one of them gave no closing note
pub record GaveNoAccount (b : RingBus) (d : RingDriver) : Type 0 where
  pub bus : EndedBus
  pub driver : EndedDriver
  pub ends_bus : EndsBus b bus
  pub ends_driver : EndsDriver d driver
  pub none : HasBusNote bus × HasDriverNote driver → ⊥

-- or the driver gave items there that the bus didn't take
pub record LeavesItems (b : RingBus) (d : RingDriver) : Type 0 where
  pub left : List Up
  pub some : 1 ≤ length left
  pub whole : sent d.up ≡ received b.up ++ left

abbrev pub IsUnsettledBy : RingBus → RingDriver → Type 0
IsUnsettledBy b d = GaveNoAccount b d ⊎ LeavesItems b d

-- a link of a run of this plan isn't settled: that of this node and activation, by both its ends. What went in at the
-- driver's is what the node's driver gave there by what it did of its script
pub record IsUnsettled (plan : PlanValue) : Type 0 where
  pub node : ℕ
  pub place : ℕ
  pub in_plan : node < length plan.nodes
  pub few : place < 64
  pub bus : RingBus
  pub driver : RingDriver
  pub link : link_of_bus bus ≡ record { node = node; activation = suc place }
  pub one : OneLink bus driver
  pub why : IsUnsettledBy bus driver
  pub work : Work
  pub follows : Follows plan.version (settings_in (at_power_on plan.version)) (steps_at plan node) work
  pub given : sent driver.up ≡ given_in (acts_of (acts_done work) (suc place))

-- what a run of this plan may answer for want of a log, once its gates are counted
abbrev pub IsFaultOf : PlanValue → RunFault → Type 0
IsFaultOf plan Memory = Unit {0}
IsFaultOf plan GateCount = ⊥
IsFaultOf plan (Bus f) = StopsWith plan f
IsFaultOf plan Thread = Unit {0}
IsFaultOf plan Unsettled = IsUnsettled plan
