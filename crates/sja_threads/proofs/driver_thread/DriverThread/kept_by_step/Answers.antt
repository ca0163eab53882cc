use Rattle.std.proofs.Common.{rules, ◌≡◌}
use Rattle.sja_driver.specs.StepRuns.{kept_written}
use Rattle.sja_driver.specs.LoggedDrivers.{kept_of}
use Rattle.sja_threads.proofs.Driver.Settings.{registers_with, has_those}
use Rattle.sja_threads.proofs.driver_thread.DriverThread.kept_by_step.Goals as goal

pub returns-in_default-clause-kept : goal.returns-in_default-clause-kept
returns-in_default-clause-kept g c =
    let t = c.args.self.now in
    let is : c.kept-kept.result ≡ kept_written (registers_with t.set) (kept_of t.driver) c.args.step.now =
    search rules in (registers_with t.set, has_those t.set, is)
