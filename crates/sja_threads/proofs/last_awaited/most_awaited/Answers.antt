use Rattle.std.proofs.Common.{ap, arith}
use Rattle.sja_steps.specs.declared.step.Step.{Step}
use Rattle.sja_thread_promises.specs.Needed.{bits_awaited}
use Rattle.sja_threads.proofs.Rounds.Awaited.{most_next}
use Rattle.sja_threads.proofs.last_awaited.most_awaited.Goals as goal

pub loop-step-preserved : goal.loop-step-preserved
loop-step-preserved c =
    let next = most_next c.args.steps.now c.loop-step.step-index c.step-item.result
    (omega (arith, c.loop-step-test.true)) in
    let this = ap (λ (s : Step). bits_awaited s) c.step-item.is in
    omega (arith, next, this, c.bits_awaited.ensures, c.loop-step.invariant, c.max-most.ensures)
