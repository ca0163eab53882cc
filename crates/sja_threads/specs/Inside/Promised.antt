-- What the threads of the drivers promise.
use Rattle.std.specs.Prelude.{◌≡◌, ℕ, List}
use Rattle.lemmas.specs.Related.{EachRelated}
use Rattle.sja_rings.specs.declared.node_bus.NodeBus.{NodeBus}
use Rattle.sja_rings.specs.declared.node_driver.NodeDriver.{NodeDriver}
use Rattle.sja_plan.specs.Plan.{PlanValue}
use Rattle.sja_threads.specs.declared.thread_start.ThreadStart.{ThreadStart}
use Rattle.sja_threads.specs.declared.thread_promise.ThreadPromise.{ThreadPromise}
use Rattle.sja_threads.specs.declared.handover.Handover.{Handover}
use Rattle.sja_journal.specs.declared.bus_fault.BusFault.{BusFault}
use Rattle.sja_threads.specs.Inside.EndsJoined.{IsStopped}
use Rattle.sja_threads.specs.Inside.Started.{HandsBack}

-- the promise of the thread that begins with this, in a run of this plan
pub record IsFor {G : Type 0} (plan : PlanValue) (s : ThreadStart G) (p : ThreadPromise G) : Type 0 where
  pub same_plan : p.plan.value ≡ plan
  pub same_node : p.node ≡ s.node
  pub same_end : p.end.value ≡ s.end
  pub same_name : p.done.value.name ≡ s.done.name
  pub same_gate : p.gate.value ≡ s.gate

-- it was kept
abbrev pub IsPromised : {G : Type 0} → (G → ℕ → ℕ → ℕ → Type 0) → ThreadPromise G → Handover NodeDriver → Type 0
IsPromised Lets p w = HandsBack (Lets p.gate.value) p.plan.value p.node p.end.value p.done.value.name w

-- the bus of a run of this plan stopped with this fault, whatever these threads hand back once they are joined
abbrev pub StopsFor : {G : Type 0} → (G → ℕ → ℕ → ℕ → Type 0) → PlanValue → List NodeBus → List (ThreadPromise G) →
    BusFault → Type 0
StopsFor Lets plan links promises f = (workeds : List (Handover NodeDriver)) →
    EachRelated (IsPromised Lets) promises workeds → IsStopped plan links workeds f
