use Rattle.std.proofs.Common.{refl, true, false}
use Rattle.sja_thread_promises.specs.declared.pass.Pass.TheVariants.{Go}
use Rattle.sja_threads.proofs.Driver.Asked.{go_on, when}
use Rattle.sja_threads.proofs.at_gate.AtGate.wait_for.Goals as goal

pub loop-init : goal.loop-init
loop-init g c = record { asked = c.requires }

pub lets_go-requires : goal.lets_go-requires
lets_go-requires g c = (c.type_bounds.send-G, c.loop.invariant.asked)

pub returns-then-not-lets_go-clause-answered : goal.returns-then-not-lets_go-clause-answered
returns-then-not-lets_go-clause-answered g c = (
  c.lets_go.new.tries,
  when g.G.Gate.answered c.args.self.now.gate c.args.node c.args.node c.args.step c.lets_go.new.tries refl
      c.lets_go.result false c.if-not-lets_go.true c.lets_go.ensures.answered,
)

pub returns-in-Some-reached-clause-answered : goal.returns-in-Some-reached-clause-answered
returns-in-Some-reached-clause-answered g c = (
  c.lets_go.new.tries,
  when g.G.Gate.answered c.args.self.now.gate c.args.node c.args.node c.args.step c.lets_go.new.tries refl
      c.lets_go.result true c.if-not-lets_go.false c.lets_go.ensures.answered,
)

pub loop-preserved : goal.loop-preserved
loop-preserved g c = record {
  asked = (g.met.G.Gate g.world.𝓛 g.world.𝓜 g.world.𝓡 ((λ s x. x), (λ x. x), (λ x. x), λ x. x)).next_try
      c.args.self.now.gate c.args.node c.args.step c.lets_go.new.tries c.wait_in_vain.new.tries Go
      (when g.G.Gate.answered c.args.self.now.gate c.args.node c.args.node c.args.step c.lets_go.new.tries refl
      c.lets_go.result true c.if-not-lets_go.false c.lets_go.ensures.answered) go_on c.wait_in_vain.ensures;
}
