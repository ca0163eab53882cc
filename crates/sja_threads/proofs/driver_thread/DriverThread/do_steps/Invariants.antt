use Rattle.std.proofs.Common.{◌≡◌, ◌<◌, ◌-◌, ℕ, take, length}
use Rattle.sja_driver.specs.LoggedDrivers.{log_of}
use Rattle.sja_driver.specs.Logs.{done_in}
use Rattle.sja_thread_promises.specs.declared.pass.Pass.TheVariants.{Go}
use Rattle.sja_thread_promises.specs.Asking.{HasAnswered, number_after}
use Rattle.sja_threads.specs.Inside.StepRuns.{HasDone}
use Rattle.sja_threads.specs.Inside.Steps.{MayStep}
use Rattle.sja_threads.proofs.driver_thread.DriverThread.do_steps.Given as goal

abbrev pub invariant-loop-k : goal.invariant-loop-k
invariant-loop-k g l = record {
  able : MayStep g.D.DriverEnd.node l.self (length l.steps - l.k);
  done : HasDone g.D.DriverEnd l.fn.self l.self (take l.k l.steps);
  asks : g.G.Gate.asks l.at.gate l.self.done.node l.number 1;
  number : l.number ≡ number_after l.k;
  count : length (done_in (log_of l.self.driver)) ≡ l.k;
  go : (before : ℕ) → before < l.k →
      HasAnswered g.G.Gate.answered l.at.gate l.fn.self.done.node (number_after before) Go;
}
