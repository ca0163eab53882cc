-- What a driver in a thread of its own hands back (this project's own rule).
use Rattle.std.specs.Prelude.{◌≡◌, ℕ, List, [], map}
use Rattle.sja_journal.specs.declared.entry.Entry.{Entry}
use Rattle.sja_journal.specs.Links.{Kept}
use Rattle.sja_journal.specs.Lists.{Lists}
use Rattle.sja_regs.specs.DriverSettings.{SettingsValue}
use Rattle.sja_steps.specs.declared.step.Step.{Step}
use Rattle.sja_driver.specs.StepRuns.{step_record_of}
use Rattle.sja_driver.specs.Holding.{HoldsBy}
use Rattle.sja_driver.specs.LoggedDrivers.{node_of, driver_of, log_of, IsLawful}
use Rattle.sja_driver.specs.Logs.{Traces, done_in}
use Rattle.sja_thread_promises.specs.declared.port_act.PortAct.{PortAct}
use Rattle.sja_threads.specs.declared.handover.Handover.{Handover}
use Rattle.sja_thread_promises.specs.Accessing.{Work, Follows, acts_done}
use Rattle.sja_thread_promises.specs.Ordering.{done_at_port, done_in_order}
use Rattle.sja_thread_promises.specs.Setting.{LeadToSettings}

-- nothing was got or given on the links of a node: they stand for the parts of its journal alone
abbrev pub AreUntouched : {E : Type 0} → (E → ℕ → Lists → Type 0) → List Entry → E → Type 0
AreUntouched stands j end = Kept stands j end (λ a. record { got = []; given = [] })

-- what the driver of a node hands back that followed a script with this end of its links, and had set this before: it
-- is lawful, it did this of the script in the version of what was set, and its log has the steps that were done; its
-- acts are answered each as its state and what was set before it have it, what it released is theirs, and, whatever
-- the journal of the node is, its end stands beside it for these acts; those at its port were noted there
pub record HasWorked {E : Type 0} (stands : E → ℕ → Lists → Type 0) (set : SettingsValue) (node : ℕ) (steps : List Step)
    (end : E) (w : Handover E) (at_port : List PortAct) : Type 0 where
  pub work : Work
  pub own : node_of w.driver ≡ node
  pub lawful : IsLawful w.driver
  pub follows : Follows set.version set steps work
  pub done : map step_record_of work.step_runs ≡ done_in (log_of w.driver)
  pub noted : done_in_order at_port ≡ done_at_port (acts_done work)
  pub leads : (last : SettingsValue) × LeadToSettings set (acts_done work) last
  pub traces : Traces set.version (driver_of w.driver) (log_of w.driver) (acts_done work)
  pub holds : (j : List Entry) → AreUntouched stands j end →
      HoldsBy stands (acts_done work) (driver_of w.driver) (log_of w.driver) j w.end
