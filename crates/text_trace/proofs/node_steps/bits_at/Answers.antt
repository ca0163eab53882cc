use Rattle.std.proofs.Common.{subst}
use Rattle.sja_steps.specs.declared.step_record.StepRecord.{StepRecord}
use Rattle.text_trace.specs.Inside.StepOrder.{IsNext}
use Rattle.text_trace.proofs.DriverSteps.StepOrders.{next_at, next_none}
use Rattle.text_trace.proofs.node_steps.bits_at.Goals as goal

pub returns-then-place-done : goal.returns-then-place-done
returns-then-place-done c =
    let P : StepRecord → Type 0 = λ d. IsNext d.bits c.args.place c.args.done.now in
    subst P c.index-done-place.is
    (next_at c.args.place c.args.done.now c.index-done-place.result c.if-place-done.true c.index-done-place.is)

pub returns-else-place-done : goal.returns-else-place-done
returns-else-place-done c = next_none 18446744073709551615 c.args.place c.args.done.now c.if-place-done.false
