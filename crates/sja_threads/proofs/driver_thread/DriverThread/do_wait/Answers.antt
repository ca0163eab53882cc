use Rattle.std.proofs.Common.{◌≡◌, ℕ, true, sym, ◌∙◌, subst}
use Rattle.std.specs.Prelude.{Option, IfSome}
use Rattle.sja_driver.specs.StepRuns.{by_bytes}
use Rattle.sja_driver.specs.LoggedDrivers.{log_of}
use Rattle.sja_driver.specs.declared.unmodelled_registers.UnmodelledRegisters.{UnmodelledRegisters}
use Rattle.sja_steps.specs.declared.step.Step.TheVariants.{At}
use Rattle.sja_steps.specs.declared.step_answer.StepAnswer.{StepAnswer}
use Rattle.sja_thread_promises.specs.Asking.{HasAnswered, pass_if}
use Rattle.sja_threads.specs.Inside.StepRuns.{EndsWait}
use Rattle.sja_threads.proofs.Driver.OneStep.{broken_before}
use Rattle.sja_threads.proofs.Driver.Waits.{wait_done}
use Rattle.sja_threads.proofs.driver_thread.DriverThread.do_wait.Goals as goal

pub returns-in_default-clause-quits : goal.returns-in_default-clause-quits
returns-in_default-clause-quits g c = λ undone.
    broken_before g.D.DriverEnd c.args.self.now c.requires.may g.met.D.DriverEnd.same_refl (At c.args.bits)

pub returns-clause-done : goal.returns-clause-done
returns-clause-done g c = λ done.
    let e = c.enter.ensures in
    let driver = c.args.self.now.driver in
    let bytes : by_bytes c.args.self.now.set.version ≡ true = sym c.requires.may.may.bytes ∙ c.requires.bytes in
    wait_done g.D.DriverEnd c.args.self.now c.enter.new.self c.in-Some.found c.args.bits c.in-Some.answer
    (subst (λ (r : Option (StepAnswer × ℕ)). IfSome r (EndsWait c.args.bits)) c.in-Some.is c.wait_for.ensures.ends)
    g.met.D.DriverEnd.same_refl (
      subst (λ (k : UnmodelledRegisters). c.enter.new.self
          ≡ record driver { kept = k; log = record (log_of driver) { done = (log_of c.enter.new.self).done } })
          c.kept-kept.ensures e.rest,
      e.done,
      e.room,
    ) bytes

pub returns-in_default-clause-answered : goal.returns-in_default-clause-answered
returns-in_default-clause-answered g c =
    subst (λ (r : Option (StepAnswer × ℕ)). HasAnswered g.G.Gate.answered c.args.at.now.gate c.args.self.now.done.node
    c.args.number (pass_if r)) c.in_default.is c.wait_for.ensures.answered

pub returns-clause-answered : goal.returns-clause-answered
returns-clause-answered g c =
    subst (λ (r : Option (StepAnswer × ℕ)). HasAnswered g.G.Gate.answered c.args.at.now.gate c.args.self.now.done.node
    c.args.number (pass_if r)) c.in-Some.is c.wait_for.ensures.answered
