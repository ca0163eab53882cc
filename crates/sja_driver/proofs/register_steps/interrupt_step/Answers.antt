use Rattle.std.proofs.Common.{◌∙◌, refl, sym, ap, inl, inr}
use Rattle.sja_regs.specs.InterruptLine.{is_line_active}
use Rattle.sja_steps.specs.declared.refusal.Refusal.TheVariants.{Closed}
use Rattle.sja_steps.specs.declared.step_answer.StepAnswer.TheVariants.{Done, Refused}
use Rattle.sja_driver.proofs.Step.Observed.{line_acts}
use Rattle.sja_driver.proofs.register_steps.interrupt_step.Goals as goal

pub returns-then-irq-clause-acts : goal.returns-then-irq-clause-acts
returns-then-irq-clause-acts g c =
    let e = g.E.DriverEnd in
    let seen = c.observe-seen in
    let active = ap (λ v. is_line_active c.args.port.now v) (sym seen.ensures.seen) ∙ sym c.irq.ensures
    ∙ c.if-irq.true in
    rw c.passed.ensures (line_acts e.same e.stands e.dry e.full c.args.end.now seen.new.end c.args.port.now
    c.args.driver.now seen.new.driver Done seen.ensures.same seen.ensures.others seen.ensures.observes
    (inl (refl, active)))

pub returns-then-closed-clause-acts : goal.returns-then-closed-clause-acts
returns-then-closed-clause-acts g c =
    let e = g.E.DriverEnd in
    let seen = c.observe-seen in
    let inactive = ap (λ v. is_line_active c.args.port.now v) (sym seen.ensures.seen) ∙ sym c.irq.ensures
    ∙ c.if-irq.false in
    let closed = sym c.closed-closed.ensures ∙ c.if-closed.true in
    rw c.refused.ensures (line_acts e.same e.stands e.dry e.full c.args.end.now seen.new.end c.args.port.now
    c.args.driver.now seen.new.driver (Refused Closed) seen.ensures.same seen.ensures.others seen.ensures.observes
    (inr (refl, inactive, closed)))
