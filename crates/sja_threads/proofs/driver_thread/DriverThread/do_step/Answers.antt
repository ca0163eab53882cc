use Rattle.std.proofs.Common.{sym, subst}
use Rattle.sja_steps.specs.declared.step.Step.{Step}
use Rattle.sja_threads.specs.Inside.StepRuns.{BreaksOff, DoesStep}
use Rattle.sja_threads.proofs.driver_thread.DriverThread.do_step.Goals as goal

pub returns-in-Write-clause-quits : goal.returns-in-Write-clause-quits
returns-in-Write-clause-quits g c = λ undone.
    subst (λ (s : Step). BreaksOff g.D.DriverEnd c.args.self.now c.do_write.new.self s) (sym c.in-Write.is)
    (c.do_write.ensures.quits undone)

pub returns-in-Write-clause-done : goal.returns-in-Write-clause-done
returns-in-Write-clause-done g c = λ done.
    subst (λ (s : Step). DoesStep g.D.DriverEnd c.args.self.now c.do_write.new.self s) (sym c.in-Write.is)
    (c.do_write.ensures.done done)

pub returns-in-At-clause-quits : goal.returns-in-At-clause-quits
returns-in-At-clause-quits g c = λ undone.
    subst (λ (s : Step). BreaksOff g.D.DriverEnd c.args.self.now c.do_wait.new.self s) (sym c.in-At.is)
    (c.do_wait.ensures.quits undone)

pub returns-in-At-clause-done : goal.returns-in-At-clause-done
returns-in-At-clause-done g c = λ done.
    subst (λ (s : Step). DoesStep g.D.DriverEnd c.args.self.now c.do_wait.new.self s) (sym c.in-At.is)
    (c.do_wait.ensures.done done)
