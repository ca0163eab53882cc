use Rattle.std.proofs.Common.{◌≡◌, true, false, refl, sym, ap, ◌∙◌, subst}
use Rattle.sja_driver.specs.WriteLists.{steps_in}
use Rattle.sja_threads.specs.Inside.Steps.{DoesParts}
use Rattle.sja_driver.specs.StepRuns.{by_bytes}
use Rattle.sja_steps.specs.declared.step.Step.TheVariants.{Write}
use Rattle.sja_threads.proofs.Driver.Asked.{when}
use Rattle.sja_threads.proofs.Driver.OneStep.{begun_last, broken_before, write_broken, write_done}
use Rattle.sja_threads.proofs.driver_thread.DriverThread.do_write.Goals as goal

pub do_parts-requires-clause-last : goal.do_parts-requires-clause-last
do_parts-requires-clause-last g c κs within =
    begun_last c.args.self.now c.args.address c.args.value _ c.begin_write-steps.result.1
    c.begin_write-steps.ensures.begins

pub returns-then-not-lets_go-clause-quits : goal.returns-then-not-lets_go-clause-quits
returns-then-not-lets_go-clause-quits g c = λ undone.
    broken_before g.D.DriverEnd c.args.self.now c.requires.may g.met.D.DriverEnd.same_refl
    (Write c.args.address c.args.value)

pub returns-then-not-do_parts-clause-quits : goal.returns-then-not-do_parts-clause-quits
returns-then-not-do_parts-clause-quits g c = λ undone.
    let bytes : by_bytes c.args.self.now.set.version ≡ true = sym c.requires.may.may.bytes ∙ c.requires.bytes in
    write_broken g.D.DriverEnd c.args.self.now c.requires.may c.do_parts.new.self c.args.address c.args.value
    c.begin_write-steps.result.0 c.do_parts.result c.begin_write-steps.result.1 c.do_parts.new.on
    c.if-not-do_parts.true c.begin_write-steps.ensures.begins (subst (λ t. DoesParts g.D.DriverEnd t
    c.do_parts.new.self (steps_in c.begin_write-steps.result.0)
    c.do_parts.result c.begin_write-steps.result.1 c.do_parts.new.on) c.begin_write-steps.ensures.same
    c.do_parts.ensures.parts) bytes

pub returns-clause-done : goal.returns-clause-done
returns-clause-done g c = λ done.
    let e = c.enter.ensures in
    let bytes : by_bytes c.args.self.now.set.version ≡ true = sym c.requires.may.may.bytes ∙ c.requires.bytes in
    write_done g.D.DriverEnd c.args.self.now c.do_parts.new.self c.enter.new.self c.args.address c.args.value
    c.begin_write-steps.result.0 c.do_parts.result c.begin_write-steps.result.1 c.do_parts.new.on c.answer.result
    c.if-not-do_parts.false c.begin_write-steps.ensures.begins (subst (λ t. DoesParts g.D.DriverEnd t
    c.do_parts.new.self (steps_in c.begin_write-steps.result.0)
    c.do_parts.result c.begin_write-steps.result.1 c.do_parts.new.on) c.begin_write-steps.ensures.same
    c.do_parts.ensures.parts) (e.rest, e.done, e.room) c.answer.ensures bytes

-- the gate let the write go, and then the last of its acts, or it quit
pub returns-then-not-lets_go-clause-answered : goal.returns-then-not-lets_go-clause-answered
returns-then-not-lets_go-clause-answered g c = (
  c.lets_go.new.tries,
  when g.G.Gate.answered c.args.at.now.gate _ _ c.args.number c.lets_go.new.tries refl c.lets_go.result false
      c.if-not-lets_go.true c.lets_go.ensures.answered,
)

pub do_parts-requires-clause-go : goal.do_parts-requires-clause-go
do_parts-requires-clause-go g c κs within =
    when g.G.Gate.answered c.args.at.now.gate _ _ c.args.number c.lets_go.new.tries
    (ap (λ t. t.done.node) (sym c.begin_write-steps.ensures.same)) c.lets_go.result true c.if-not-lets_go.false
    c.lets_go.ensures.answered

pub returns-then-not-do_parts-clause-answered : goal.returns-then-not-do_parts-clause-answered
returns-then-not-do_parts-clause-answered g c = (
  c.do_parts.new.tries,
  when g.G.Gate.answered c.args.at.now.gate _ _ c.args.number c.do_parts.new.tries
      (ap (λ t. t.done.node) c.begin_write-steps.ensures.same) c.do_parts.result false c.if-not-do_parts.true
      c.do_parts.ensures.answered,
)

pub returns-clause-answered : goal.returns-clause-answered
returns-clause-answered g c = (
  c.do_parts.new.tries,
  when g.G.Gate.answered c.args.at.now.gate _ _ c.args.number c.do_parts.new.tries
      (ap (λ t. t.done.node) c.begin_write-steps.ensures.same) c.do_parts.result true c.if-not-do_parts.false
      c.do_parts.ensures.answered,
)
