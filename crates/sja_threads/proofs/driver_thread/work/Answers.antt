use Rattle.std.proofs.Common.{length, subst}
use Rattle.sja_driver.specs.LoggedDrivers.{log_of}
use Rattle.sja_driver.specs.Logs.{done_in}
use Rattle.sja_thread_promises.specs.Asking.{IsLet}
use Rattle.sja_threads.proofs.driver_thread.work.Goals as goal

pub returns-clause-let_by : goal.returns-clause-let_by
returns-clause-let_by g c =
    subst (λ gate. IsLet g.G.Gate.QUITS g.G.Gate.answered gate c.args.done.node (length c.args.steps.now)
    (length (done_in (log_of c.follow.result.driver)))) c.new.ensures c.follow.ensures.let_by
