-- A run in threads once all threads are joined.
use Rattle.std.specs.Prelude.{◌≡◌, ◌<◌, ℕ, List, length, map, slice_index_or}
use Rattle.lemmas.specs.Related.{EachRelated}
use Rattle.sja_rings.specs.declared.node_bus.NodeBus.{NodeBus}
use Rattle.sja_rings.specs.declared.node_driver.NodeDriver.{NodeDriver}
use Rattle.sja_rings.specs.NodeRings.{SameNodeBus}
use Rattle.sja_regs.specs.DriverSettings.{settings_in}
use Rattle.sja_regs.specs.Registers.{at_power_on}
use Rattle.sja_plan.specs.Plan.{PlanValue, steps_at}
use Rattle.sja_driver.specs.StepRuns.{step_record_of}
use Rattle.sja_driver.specs.LoggedDrivers.{log_of}
use Rattle.sja_driver.specs.Logs.{done_in}
use Rattle.sja_threads.specs.declared.bus_thread.BusThread.{BusThread}
use Rattle.sja_threads.specs.declared.joined_run.JoinedRun.{JoinedRun}
use Rattle.sja_threads.specs.declared.handover.Handover.{Handover}
use Rattle.sja_thread_promises.specs.Accessing.{Work, Follows, acts_done, work_at}
use Rattle.sja_thread_promises.specs.Ordering.{done_at_port, done_in_order}
use Rattle.sja_thread_promises.specs.Stopping.{act_counts}
use Rattle.sja_threads.specs.Inside.Ended.{IsOver}
use Rattle.sja_threads.specs.Inside.EndsJoined.{AreJoined, AreGivenBy}
use Rattle.sja_threads.specs.Inside.Rounds.{IsUnderWay, GoesOn}

-- what the driver of a node did of its script in a run of this plan, which handed this back; all of it that its gate
-- let
pub record HasFollowed (Lets : ℕ → ℕ → ℕ → Type 0) (plan : PlanValue) (node : ℕ) (work : Work)
    (w : Handover NodeDriver) : Type 0 where
  pub follows : Follows plan.version (settings_in (at_power_on plan.version)) (steps_at plan node) work
  pub done : map step_record_of work.step_runs ≡ done_in (log_of w.driver)
  pub noted : done_in_order w.done.list ≡ done_at_port (acts_done work)
  pub all : Lets node (length (steps_at plan node)) (length (done_in (log_of w.driver)))

-- its bus is under way, and has room for all acts; each driver did what it did of its script, and however the bus goes
-- on from here, with what the threads handed back the run of their acts is over then; and of each node its end of the
-- links and the driver's come from one pair
pub record IsEnding (Lets : ℕ → ℕ → ℕ → Type 0) (plan : PlanValue) (j : JoinedRun) : Type 0 where
  pub way : IsUnderWay plan j.bus
  pub steps : j.bus.bus.steps ≡ act_counts plan
  pub works : List Work
  pub over : (t : BusThread) → GoesOn plan j.bus t →
      IsOver plan t.bus t.links.items j.workeds.items (map (λ (w : Work). acts_done w) works)
  pub joined : (links : List NodeBus) → EachRelated SameNodeBus j.bus.links.items links →
      AreJoined (length plan.nodes) links j.workeds.items
  pub given : AreGivenBy (length plan.nodes) works j.workeds.items
  pub followed : (node : ℕ) (w : Handover NodeDriver) → node < length plan.nodes →
      HasFollowed Lets plan node (work_at works node) (slice_index_or j.workeds.items node w)
