use Rattle.std.proofs.Common.{None}
use Rattle.sja_thread_promises.specs.declared.pass.Pass.TheVariants.{Go}
use Rattle.sja_threads.specs.Inside.Steps.{DoesAct}
use Rattle.sja_threads.proofs.driver_thread.DriverThread.do_act.Given as goal

abbrev pub invariant-loop : goal.invariant-loop
invariant-loop g l = record {
  none : DoesAct g.D.DriverEnd l.initial.self l.self l.act None;
  go : g.G.Gate.answered l.at.gate l.initial.self.done.node l.number l.tries Go;
}
