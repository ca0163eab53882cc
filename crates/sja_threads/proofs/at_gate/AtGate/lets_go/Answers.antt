use Rattle.std.proofs.Common.{subst}
use Rattle.sja_thread_promises.specs.declared.pass.Pass.{Pass}
use Rattle.sja_thread_promises.specs.declared.pass.Pass.TheVariants.{Hold}
use Rattle.sja_threads.proofs.Driver.Asked.{hold_on}
use Rattle.sja_threads.proofs.at_gate.AtGate.lets_go.Goals as goal

pub loop-init : goal.loop-init
loop-init g c = record { asked = c.requires }

pub turn-requires : goal.turn-requires
turn-requires g c = c.loop.invariant.asked

pub returns-in-Go-clause-answered : goal.returns-in-Go-clause-answered
returns-in-Go-clause-answered g c =
    subst (λ (p : Pass). g.G.Gate.answered c.args.self.now.gate c.args.node c.args.step c.loop.tries p) c.in-Go.is
    c.turn.ensures.says

pub returns-in-Quit-clause-answered : goal.returns-in-Quit-clause-answered
returns-in-Quit-clause-answered g c =
    subst (λ (p : Pass). g.G.Gate.answered c.args.self.now.gate c.args.node c.args.step c.loop.tries p) c.in-Quit.is
    c.turn.ensures.says

pub loop-preserved : goal.loop-preserved
loop-preserved g c = record {
  asked = (g.met.G.Gate g.world.𝓛 g.world.𝓜 g.world.𝓡 ((λ s x. x), (λ x. x), (λ x. x), λ x. x)).next_try
      c.args.self.now.gate c.args.node c.args.step c.loop.tries c.wait.new.tries Hold
      (subst (λ (p : Pass). g.G.Gate.answered c.args.self.now.gate c.args.node c.args.step c.loop.tries p) c.in-Hold.is
      c.turn.ensures.says) hold_on c.wait.ensures;
}
