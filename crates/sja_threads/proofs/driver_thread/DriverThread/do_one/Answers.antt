use Rattle.std.proofs.Common.{◌≡◌, ◌++◌, ◌∷◌, [], ℕ, true, false, Some, None, refl, sym, ap, subst, arith}
use Rattle.sja_driver.specs.LoggedDrivers.{log_of}
use Rattle.sja_driver.specs.Logs.{done_in}
use Rattle.sja_threads.specs.Inside.Steps.{DoesAct}
use Rattle.sja_threads.proofs.Driver.Asked.{when, when_if}
use Rattle.sja_threads.proofs.Driver.OneStep.{broken_before, step_broken, step_done}
use Rattle.sja_threads.proofs.driver_thread.DriverThread.do_one.Goals as goal

-- a step counts the bits that were found
at_count : (P : ℕ → Type 0) (bits found : ℕ) → P bits → bits ≡ found → P found
at_count P bits found so same = subst P same so

pub returns-then-not-lets_go-clause-quits : goal.returns-then-not-lets_go-clause-quits
returns-then-not-lets_go-clause-quits g c = λ undone.
    broken_before g.D.DriverEnd c.args.self.now c.requires.may g.met.D.DriverEnd.same_refl c.args.step.now

pub returns-in_default-clause-quits : goal.returns-in_default-clause-quits
returns-in_default-clause-quits g c = λ undone.
    step_broken g.D.DriverEnd c.args.self.now c.requires.may c.do_act.new.self c.args.step.now c.do_act.result
    c.in_default.is
    (subst (λ t. DoesAct g.D.DriverEnd t c.do_act.new.self c.args.step.now c.do_act.result)
    c.kept_by_step-kept.ensures.same c.do_act.ensures.done)

pub returns-clause-done : goal.returns-clause-done
returns-clause-done g c = λ done.
    let e = c.enter.ensures in
    step_done g.D.DriverEnd c.args.self.now c.do_act.new.self c.enter.new.self c.args.step.now c.do_act.result
    c.in-Some.answer c.reply.result c.kept_by_step-kept.result c.answered.new.self c.in-Some.is
    (subst (λ t. DoesAct g.D.DriverEnd t c.do_act.new.self c.args.step.now c.do_act.result)
    c.kept_by_step-kept.ensures.same c.do_act.ensures.done) (
      e.rest,
      at_count (λ n. done_in (log_of c.enter.new.self)
          ≡ done_in (log_of c.do_act.new.self.driver) ++ record { answer = c.reply.result; bits = n } ∷ []) _
          c.do_act.new.self.found e.done (omega arith),
      e.room,
    )
    c.requires.may c.requires.one c.kept_by_step-kept.ensures.kept c.answered.ensures c.reply.ensures

-- the gate let the step go, and then an act of it, or it quit
pub returns-then-not-lets_go-clause-answered : goal.returns-then-not-lets_go-clause-answered
returns-then-not-lets_go-clause-answered g c = (
  c.lets_go.new.tries,
  when g.G.Gate.answered c.args.at.now.gate _ _ c.args.number c.lets_go.new.tries refl c.lets_go.result false
      c.if-not-lets_go.true c.lets_go.ensures.answered,
)

pub do_act-requires-clause-go : goal.do_act-requires-clause-go
do_act-requires-clause-go g c κs within =
    when g.G.Gate.answered c.args.at.now.gate _ _ c.args.number c.lets_go.new.tries
    (ap (λ t. t.done.node) (sym c.kept_by_step-kept.ensures.same)) c.lets_go.result true c.if-not-lets_go.false
    c.lets_go.ensures.answered

pub returns-in_default-clause-answered : goal.returns-in_default-clause-answered
returns-in_default-clause-answered g c = (
  c.do_act.new.tries,
  when_if g.G.Gate.answered c.args.at.now.gate _ _ c.args.number c.do_act.new.tries
      (ap (λ t. t.done.node) c.kept_by_step-kept.ensures.same) c.do_act.result None c.in_default.is
      c.do_act.ensures.answered,
)

pub returns-clause-answered : goal.returns-clause-answered
returns-clause-answered g c = (
  c.do_act.new.tries,
  when_if g.G.Gate.answered c.args.at.now.gate _ _ c.args.number c.do_act.new.tries
      (ap (λ t. t.done.node) c.kept_by_step-kept.ensures.same) c.do_act.result (Some c.in-Some.answer) c.in-Some.is
      c.do_act.ensures.answered,
)
