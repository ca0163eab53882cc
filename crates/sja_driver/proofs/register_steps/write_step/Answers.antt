use Rattle.std.proofs.Common.{sym, subst}
use Rattle.sja_journal.specs.Lists.{on, is_on, same_on}
use Rattle.sja_steps.specs.declared.step.Step.TheVariants.{Write}
use Rattle.sja_steps.specs.declared.step_answer.StepAnswer.{StepAnswer}
use Rattle.sja_driver.specs.Acting.{ActsOn}
use Rattle.sja_driver.specs.AnyDrivers.{link_used}
use Rattle.sja_driver.specs.Tries.Tried.{Answered}
use Rattle.sja_driver.proofs.Step.Written.{wrote_acts}
use Rattle.sja_driver.proofs.register_steps.write_step.Goals as goal

pub returns-in-InReset : goal.returns-in-InReset
returns-in-InReset g c = λ e.
    let ends = g.E.DriverEnd in
    let a = link_used c.args.driver.now in
    subst (λ (answer : StepAnswer). ActsOn ends.same ends.stands ends.dry ends.full e e c.args.port.now c.write.new.port
    (Write c.args.addr c.args.value) c.args.driver.now c.args.driver.now (Answered answer))
    (sym c.done_answer.ensures.value)
    (wrote_acts (same_on ends.same ends.stands a) (on ends.stands a) (is_on ends.dry a) (is_on ends.full a) e
    c.args.port.now c.write.new.port c.args.addr c.args.value
    c.write.result c.write.ensures c.args.driver.now)

pub returns-in-InActive : goal.returns-in-InActive
returns-in-InActive g c = λ e.
    let ends = g.E.DriverEnd in
    let a = link_used c.args.driver.now in
    subst (λ (answer : StepAnswer). ActsOn ends.same ends.stands ends.dry ends.full e e c.args.port.now
    c.write-in-InActive.new.port (Write c.args.addr c.args.value) c.args.driver.now c.args.driver.now (Answered answer))
    (sym c.done_answer-in-InActive.ensures.value)
    (wrote_acts (same_on ends.same ends.stands a) (on ends.stands a) (is_on ends.dry a) (is_on ends.full a) e
    c.args.port.now c.write-in-InActive.new.port c.args.addr
    c.args.value c.write-in-InActive.result c.write-in-InActive.ensures c.args.driver.now)
