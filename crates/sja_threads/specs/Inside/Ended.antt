-- A run that is over: what its bus and the drivers in their threads handed back.
use Rattle.std.specs.Prelude.{◌≡◌, ◌+◌, ◌<◌, ℕ, None, List, length, slice_index_or}
use Rattle.sja_journal.specs.declared.entry.Entry.{Entry}
use Rattle.sja_journal.specs.Accounts.{Account}
use Rattle.sja_rings.specs.declared.node_bus.NodeBus.{NodeBus}
use Rattle.sja_rings.specs.declared.node_driver.NodeDriver.{NodeDriver}
use Rattle.sja_rings.specs.NodeRings.{NodeBusLists, NodeDriverLists, OneNode}
use Rattle.sja_regs.specs.DriverSettings.{SettingsValue, settings_in}
use Rattle.sja_regs.specs.Registers.{at_power_on}
use Rattle.sja_plan.specs.Plan.{PlanValue}
use Rattle.sja_driver.specs.TypedActs.{TypedAct, acts_at}
use Rattle.sja_driver.specs.Holding.{HoldsBy}
use Rattle.sja_driver.specs.LoggedDrivers.{node_of, driver_of, log_of, IsLawful}
use Rattle.sja_driver.specs.Logs.{KeepsLog, Traces}
use Rattle.sja_bus_rules.specs.Buses.{BusValue}
use Rattle.sja_journal.specs.Links.{Kept}
use Rattle.sja_bus_rules.specs.Wire.{journal_at}
use Rattle.sja_threads.specs.declared.handover.Handover.{Handover}
use Rattle.sja_thread_promises.specs.Setting.{LeadToSettings}
use Rattle.sja_thread_promises.specs.Stopping.{act_counts}
use Rattle.sja_threads.specs.Inside.Rounds.{TakesNoneBefore}

-- of one node, when its driver and the bus have ended: what its driver had set first, its journal, what its driver
-- handed back, and the bus's end of its links
pub record IsOverAt (set : SettingsValue) (node : ℕ) (j : List Entry) (acts : List TypedAct)
    (w : Handover NodeDriver) (bus : NodeBus) : Type 0 where
  -- its driver did these acts
  pub own : node_of w.driver ≡ node
  pub lawful : IsLawful w.driver
  pub keeps : KeepsLog (log_of w.driver)
  pub leads : (last : SettingsValue) × LeadToSettings set acts last
  pub traces : Traces set.version (driver_of w.driver) (log_of w.driver) acts
  -- the driver's end stands beside the journal for these acts, and the bus's for the parts of the journal, whatever
  -- the driver got and gave
  pub drivers : HoldsBy NodeDriverLists acts (driver_of w.driver) (log_of w.driver) j w.end
  pub buses : (h : ℕ → Account) → Kept NodeBusLists j bus h
  -- both ends come from one pair
  pub pair : OneNode bus w.end
  pub none : TakesNoneBefore j

-- of all nodes of a plan: its bus, the bus's ends of the links of all nodes, and what the drivers handed back, which
-- did these acts, a list for each node
pub record IsOver (plan : PlanValue) (bus : BusValue) (links : List NodeBus) (workeds : List (Handover NodeDriver))
    (acts : List (List TypedAct)) : Type 0 where
  pub right : bus.fault ≡ None
  pub script : bus.script ≡ plan.strikes
  pub all_bits : bus.run + bus.left ≡ plan.bits
  pub steps : bus.steps ≡ act_counts plan
  pub journals_count : length bus.journals ≡ length plan.nodes
  pub links_count : length links ≡ length plan.nodes
  pub workeds_count : length workeds ≡ length plan.nodes
  pub acts_count : length acts ≡ length plan.nodes
  pub nodes : (node : ℕ) (b : NodeBus) (w : Handover NodeDriver) → node < length plan.nodes →
      IsOverAt (settings_in (at_power_on plan.version)) node (journal_at bus.journals node) (acts_at acts node)
      (slice_index_or workeds node w) (slice_index_or links node b)
