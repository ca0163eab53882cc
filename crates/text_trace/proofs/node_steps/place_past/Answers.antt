use Rattle.std.proofs.Common.{◌<◌}
use Rattle.text_trace.proofs.DriverSteps.StepOrders.{past_more}
use Rattle.text_trace.proofs.node_steps.place_past.Goals as goal

pub loop-place-preserved : goal.loop-place-preserved
loop-place-preserved c = λ past.
    let few : c.index-done-place.result.bits < c.args.bits = rw c.index-done-place.is c.if-done-place.true in
    past_more c.args.bits c.loop-place.place c.args.done.now c.index-done-place.result c.loop-place-test.true
    c.index-done-place.is few (c.loop-place.invariant past)
