use Rattle.sja_threads.proofs.End.ThreadedRun.{headline}
use Rattle.sja_threads.proofs.run.run_threads.Goals as goal

pub returns-clause-headline : goal.returns-clause-headline
returns-clause-headline g c =
    headline c.args.plan.now g.G.Gate.QUITS c.run_ordered.result c.run_ordered.ensures.run
