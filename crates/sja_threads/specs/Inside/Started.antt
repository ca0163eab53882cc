-- The threads of the drivers: what each begins with, and what it hands back.
use Rattle.std.specs.Prelude.{◌≡◌, ◌<◌, ◌≤◌, ℕ, List, [], length, All}
use Rattle.sja_rings.specs.declared.node_driver.NodeDriver.{NodeDriver}
use Rattle.sja_rings.specs.NodeRings.{node_of_driver, NodeDriverLists, SameNodeDriver}
use Rattle.sja_regs.specs.DriverSettings.{settings_in}
use Rattle.sja_regs.specs.Registers.{at_power_on}
use Rattle.sja_plan.specs.Plan.{PlanValue, steps_at}
use Rattle.sja_driver.specs.LoggedDrivers.{log_of}
use Rattle.sja_driver.specs.Logs.{HasRoom, IsEmpty, KeepsLog, done_in, done_room}
use Rattle.sja_threads.specs.declared.thread_start.ThreadStart.{ThreadStart}
use Rattle.sja_threads.specs.declared.handover.Handover.{Handover}
use Rattle.sja_threads.specs.Working.{HasWorked}
use Rattle.sja_threads.specs.Inside.Names.{IsOrderOf}

-- what the thread of a driver of this plan may begin with
pub record IsThreadStart {G : Type 0} (plan : PlanValue) (s : ThreadStart G) : Type 0 where
  pub few : s.node < length plan.nodes
  pub empty : IsEmpty s.log
  pub room : HasRoom plan.version (length (steps_at plan s.node)) s.log
  pub steps : length (steps_at plan s.node) ≤ done_room s.log
  pub keeps : KeepsLog s.log
  pub own : node_of_driver s.end ≡ s.node
  pub none : s.done.list ≡ []

-- each has its list of acts in the order that the ports keep
abbrev pub AreOrdered : {G : Type 0} → ℕ → List ℕ → ℕ → List (ThreadStart G) → Type 0
AreOrdered {G} order_version names version starts =
    All (λ (s : ThreadStart G). IsOrderOf order_version names version s.node s.done.name) starts

-- what it hands back: the same end and the same list of acts, and a driver that followed its script with them, all of
-- it that its gate let, and whose log keeps all
pub record HandsBack (Lets : ℕ → ℕ → ℕ → Type 0) (plan : PlanValue) (node : ℕ) (end : NodeDriver) (name : ℕ)
    (w : Handover NodeDriver) : Type 0 where
  pub same : SameNodeDriver end w.end
  pub worked : HasWorked NodeDriverLists (settings_in (at_power_on plan.version)) node (steps_at plan node) end w
      w.done.list
  pub named : w.done.name ≡ name
  pub keeps : KeepsLog (log_of w.driver)
  pub all : Lets node (length (steps_at plan node)) (length (done_in (log_of w.driver)))

-- the same of what a thread began with
abbrev pub Serves : {G : Type 0} → (G → ℕ → ℕ → ℕ → Type 0) → PlanValue → ThreadStart G → Handover NodeDriver → Type 0
Serves Lets plan s w = HandsBack (Lets s.gate) plan s.node s.end s.done.name w
