-- What is left on the links of a run that is over.
use Rattle.std.specs.Prelude.{◌≡◌, ◌<◌, ◌++◌, ℕ, List, length, map, slice_index_or}
use Rattle.rtrb.specs.Ring.{sent}
use Rattle.sja_journal.specs.declared.down.Down.{Down}
use Rattle.sja_link.specs.declared.older_down.OlderDown.{OlderDown}
use Rattle.sja_journal.specs.Lists.{Lists}
use Rattle.sja_rings.specs.declared.node_bus.NodeBus.{NodeBus}
use Rattle.sja_rings.specs.declared.node_driver.NodeDriver.{NodeDriver}
use Rattle.sja_rings.specs.declared.ring_bus.RingBus.{RingBus}
use Rattle.sja_rings.specs.declared.ring_driver.RingDriver.{RingDriver}
use Rattle.sja_rings.specs.Ends.{BusLists, DriverLists}
use Rattle.sja_rings.specs.NodeRings.{rings_of_bus, rings_of_driver, NodeBusLists, NodeDriverLists}
use Rattle.sja_driver.specs.declared.logged_driver.LoggedDriver.{LoggedDriver}
use Rattle.sja_driver.specs.LoggedDrivers.{log_of}
use Rattle.sja_driver.specs.Logs.{done_in}
use Rattle.sja_bus_rules.specs.Buses.{BusValue}
use Rattle.sja_log.specs.declared.end.End.{End}
use Rattle.sja_promises.specs.LeftDown.{left_of}
use Rattle.sja_log.specs.Log.{NodeValue, RunValue, journals_in}
use Rattle.sja_threads.specs.declared.handover.Handover.{Handover}
use Rattle.sja_thread_promises.specs.Linked.{AreLinked}
use Rattle.sja_thread_promises.specs.Stopping.{CameFirst, IsUnsettledBy}

-- the drivers that were handed back, and their ends of the nodes' links
abbrev pub all_drivers : List (Handover NodeDriver) → List LoggedDriver
all_drivers workeds = map (λ (w : Handover NodeDriver). w.driver) workeds

abbrev pub all_ends : List (Handover NodeDriver) → List NodeDriver
all_ends workeds = map (λ (w : Handover NodeDriver). w.end) workeds

-- ---- one link of two rings

-- all that was given on a link was taken, and of what was put this wasn't got, whatever the lists are that its two ends
-- stand for
abbrev pub IsLeftBy : (Lists → Type 0) → (Lists → Type 0) → List Down → Type 0
IsLeftBy Bus Driver down = (l : Lists) → Bus l → Driver l → (l.put ≡ l.got ++ down) × (l.given ≡ l.taken)

abbrev pub IsLeftOn : RingBus → RingDriver → List Down → Type 0
IsLeftOn b d down = IsLeftBy (BusLists b) (DriverLists d) down

-- what came out at the bus's end is a front of what went in at the driver's
abbrev pub CameFrom : RingBus → RingDriver → Type 0
CameFrom b d = CameFirst b (sent d.up)

-- ---- the links of one node

-- of each activation this is left on the link
abbrev pub IsLeftOnAll : NodeBus → NodeDriver → (ℕ → List Down) → Type 0
IsLeftOnAll b d down = (a : ℕ) → IsLeftBy (NodeBusLists b a) (NodeDriverLists d a) (down a)

-- on each link what came out is a front of what went in
abbrev pub AllCameFrom : NodeBus → NodeDriver → Type 0
AllCameFrom b d = (a : ℕ) (x : RingBus) (y : RingDriver) → a < length (rings_of_bus b) →
    CameFrom (slice_index_or (rings_of_bus b) a x) (slice_index_or (rings_of_driver d) a y)

-- one of the links isn't settled
pub record LeavesUnsettled (b : NodeBus) (d : NodeDriver) : Type 0 where
  pub place : ℕ
  pub few : place < length (rings_of_bus b)
  pub why : (x : RingBus) (y : RingDriver) →
      IsUnsettledBy (slice_index_or (rings_of_bus b) place x) (slice_index_or (rings_of_driver d) place y)

-- ---- the links of all nodes

-- one of them isn't settled
pub record SomeUnsettled (buses : List NodeBus) (drivers : List NodeDriver) : Type 0 where
  pub node : ℕ
  pub few : node < length buses
  pub why : (b : NodeBus) (d : NodeDriver) →
      LeavesUnsettled (slice_index_or buses node b) (slice_index_or drivers node d)

-- on those of the first so many nodes this is left, by node
pub record AreLeftOn (buses : List NodeBus) (drivers : List NodeDriver) (count : ℕ) (lists : List (List OlderDown))
    : Type 0 where
  pub count_is : length lists ≡ count
  pub each : (node : ℕ) (b : NodeBus) (d : NodeDriver) → node < count →
      IsLeftOnAll (slice_index_or buses node b) (slice_index_or drivers node d) (λ a. left_of lists node a)

-- a log says how many bits were run, why the run ended, the journals of the bus, and the steps that each driver did;
-- and some order of events leads to what each activation's link carried
pub record IsSettledLog (bus : BusValue) (workeds : List (Handover NodeDriver)) (end : End) (log : RunValue) :
    Type 0 where
  pub bits : log.bits ≡ bus.run
  pub ends : log.end ≡ end
  pub journals : journals_in log ≡ bus.journals
  pub done : (node : ℕ) (n : NodeValue) (w : Handover NodeDriver) → node < length log.nodes →
      (slice_index_or log.nodes node n).done ≡ done_in (log_of (slice_index_or workeds node w).driver)
  pub linked : (node : ℕ) (n : NodeValue) → node < length log.nodes → AreLinked (slice_index_or log.nodes node n)
