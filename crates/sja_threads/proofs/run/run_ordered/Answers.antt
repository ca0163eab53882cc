use Rattle.std.proofs.Common.{subst}
use Rattle.sja_thread_promises.specs.Asking.{AtNode, IsLet}
use Rattle.sja_threads.specs.Inside.JoinedRun.{IsEnding}
use Rattle.sja_threads.proofs.Start.Threads.{all_ordered}
use Rattle.sja_threads.proofs.run.run_ordered.Goals as goal

pub run_drivers-requires-clause-order : goal.run_drivers-requires-clause-order
run_drivers-requires-clause-order g c κs within =
    let r = c.requires in
    let parts = c.args.parts in
    all_ordered c.args.plan.now parts.starts.items c.args.lists.items parts.bus.links.items g.N.Order.acts
    g.N.Order.version r.version r.acts r.many r.parts.starts r.parts.links r.parts.made r.listed

-- the gates that are asked are those with which the threads begin
pub end_run-requires-clause-ending : goal.end_run-requires-clause-ending
end_run-requires-clause-ending g c κs within =
    subst (λ gates. IsEnding (AtNode (IsLet g.G.Gate.QUITS g.G.Gate.answered) gates) c.args.plan.now
    c.in_ok-joined.joined) c.requires.asked c.in_ok-joined.ensures.ending
