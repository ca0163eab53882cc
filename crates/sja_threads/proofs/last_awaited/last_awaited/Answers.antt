use Rattle.std.proofs.Common.{List, ap, arith}
use Rattle.sja_steps.specs.declared.step.Step.{Step}
use Rattle.sja_thread_promises.specs.Needed.{most_awaited}
use Rattle.sja_threads.proofs.Rounds.Awaited.{last_next}
use Rattle.sja_threads.proofs.last_awaited.last_awaited.Goals as goal

pub loop-node-preserved : goal.loop-node-preserved
loop-node-preserved c =
    let next = last_next c.args.plan.now.nodes c.loop-node.node
    (omega (arith, c.loop-node-test.true, c.nodes-node-end.ensures.value)) in
    let these = ap (λ (l : List Step). most_awaited l) c.steps.ensures.value in
    omega (arith, next, these, c.most_awaited.ensures, c.loop-node.invariant, c.max-last.ensures)
