-- What is promised of every run whose drivers stand in threads of their own, and which returns (this project's own
-- rule).
use Rattle.std.specs.Prelude.{◌≡◌, ◌<◌, ℕ, Bool, false, List, length, map, slice_index_or}
use Rattle.sja_regs.specs.DriverSettings.{SettingsValue, settings_in}
use Rattle.sja_regs.specs.Registers.{at_power_on}
use Rattle.sja_plan.specs.Plan.{PlanValue, steps_at}
use Rattle.sja_driver.specs.StepRuns.{step_record_of}
use Rattle.sja_log.specs.Log.{NodeValue, RunValue, journals_in}
use Rattle.sja_bus_rules.specs.Wire.{journal_at}
use Rattle.sja_promises.specs.Runs.{IsRun}
use Rattle.sja_thread_promises.specs.Accessing.{Work, Follows, acts_done, work_at}
use Rattle.sja_thread_promises.specs.declared.pass.Pass.{Pass}
use Rattle.sja_thread_promises.specs.Asking.{AtNode, IsLet}
use Rattle.sja_thread_promises.specs.Linked.{AreLinked}
use Rattle.sja_thread_promises.specs.Needed.{IsNeeded}
use Rattle.sja_thread_promises.specs.Ordering.{IsOrdered}
use Rattle.sja_thread_promises.specs.Setting.{LeadToSettings}

-- of its drivers there is what each did of its script, by whose acts the run is what every run is. Of each driver that
-- is a front of the plan's steps, which the log has as done, each at what those before it have left, and where a gate
-- broke a write off some acts of it; each act is done with what the acts before it have set, from power-on; at each
-- port some order of what the bus told it and of the driver's acts there leads from power-on on, and no bit was run
-- before the node had begun; some order of events leads to what the link of each activation carried; each of its bits
-- was due, and it ended duly; and where no gate quits every driver did all its steps
pub record IsThreadedRun (plan : PlanValue) (log : RunValue) (quits : Bool) : Type 0 where
  pub works : List Work
  pub run : IsRun plan log (map (λ (w : Work). acts_done w) works)
  pub follows : (node : ℕ) → node < length plan.nodes →
      Follows plan.version (settings_in (at_power_on plan.version)) (steps_at plan node) (work_at works node)
  pub done : (node : ℕ) (d : NodeValue) → node < length log.nodes →
      map step_record_of (work_at works node).step_runs ≡ (slice_index_or log.nodes node d).done
  pub sets : (node : ℕ) → node < length plan.nodes →
      (last : SettingsValue)
      × LeadToSettings (settings_in (at_power_on plan.version)) (acts_done (work_at works node)) last
  pub ordered : (node : ℕ) → node < length plan.nodes →
      IsOrdered plan.version plan.bits log.end (steps_at plan node) (journal_at (journals_in log) node)
      (acts_done (work_at works node))
  pub linked : (node : ℕ) (d : NodeValue) → node < length log.nodes → AreLinked (slice_index_or log.nodes node d)
  pub needed : IsNeeded plan log
  pub all_done : quits ≡ false → (node : ℕ) (d : NodeValue) → node < length log.nodes →
      length (slice_index_or log.nodes node d).done ≡ length (steps_at plan node)

-- the driver of each node did as many steps as its gate let it, of these by node
abbrev pub AreLetBy : {G : Type 0} → Bool → (G → ℕ → ℕ → ℕ → Pass → Type 0) → List G → PlanValue → RunValue → Type 0
AreLetBy quits answered gates plan log = (node : ℕ) (d : NodeValue) → node < length log.nodes →
    AtNode (IsLet quits answered) gates node (length (steps_at plan node))
    (length (slice_index_or log.nodes node d).done)
