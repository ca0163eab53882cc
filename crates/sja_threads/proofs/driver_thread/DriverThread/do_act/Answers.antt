use Rattle.std.proofs.Common.{◌≡◌, ℕ, true, false, Some, None, sym, ◌∙◌, subst}
use Rattle.sja_thread_promises.specs.declared.pass.Pass.TheVariants.{Go}
use Rattle.sja_threads.proofs.Driver.Asked.{go_on, when}
use Rattle.sja_threads.proofs.Driver.Steps.{act_able, act_none, act_then}
use Rattle.sja_threads.proofs.driver_thread.DriverThread.do_act.Given.{Over}
use Rattle.sja_threads.proofs.driver_thread.DriverThread.do_act.Goals.{In_default}
use Rattle.sja_threads.proofs.driver_thread.DriverThread.do_act.Goals as goal

-- a try in vain leaves the list with its node
same_node : (g : Over) (c : In_default g) → c.try_act.new.self.done.node ≡ c.args.self.now.done.node
same_node g c = c.in_default.ensures.does.same ∙ c.loop.invariant.none.does.same

pub loop-init : goal.loop-init
loop-init g c = record {
  none = act_none g.D.DriverEnd g.met.D.DriverEnd.same_refl c.args.self.now c.args.act.now;
  go = c.requires.go;
}

pub try_act-requires : goal.try_act-requires
try_act-requires g c =
    act_able g.D.DriverEnd c.args.self.now c.loop.self c.args.act.now 1 c.loop.invariant.none c.requires.may

pub returns-in-Some-try_act-clause-done : goal.returns-in-Some-try_act-clause-done
returns-in-Some-try_act-clause-done g c =
    act_then g.D.DriverEnd g.met.D.DriverEnd.same_trans c.args.self.now c.loop.self c.try_act.new.self c.args.act.now
    (Some c.in-Some-try_act.answer) c.loop.invariant.none c.in-Some-try_act.ensures

pub returns-then-not-lets_go-clause-done : goal.returns-then-not-lets_go-clause-done
returns-then-not-lets_go-clause-done g c =
    act_then g.D.DriverEnd g.met.D.DriverEnd.same_trans c.args.self.now c.loop.self c.try_act.new.self c.args.act.now
    None c.loop.invariant.none c.in_default.ensures

pub loop-preserved : goal.loop-preserved
loop-preserved g c = record {
  none = act_then g.D.DriverEnd g.met.D.DriverEnd.same_trans c.args.self.now c.loop.self c.try_act.new.self
      c.args.act.now None c.loop.invariant.none c.in_default.ensures;
  go = when g.G.Gate.answered c.args.at.now.gate c.try_act.new.self.done.node c.args.self.now.done.node c.args.number
      c.lets_go.new.tries (same_node g (goal.at.loop-preserved g c).In_default) c.lets_go.result true
      c.if-not-lets_go.false c.lets_go.ensures.answered;
}

pub returns-in-Some-try_act-clause-answered : goal.returns-in-Some-try_act-clause-answered
returns-in-Some-try_act-clause-answered g c = c.loop.invariant.go

pub returns-then-not-lets_go-clause-answered : goal.returns-then-not-lets_go-clause-answered
returns-then-not-lets_go-clause-answered g c =
    when g.G.Gate.answered c.args.at.now.gate c.try_act.new.self.done.node c.args.self.now.done.node c.args.number
    c.lets_go.new.tries (same_node g (goal.at.returns-then-not-lets_go-clause-answered g c).In_default) c.lets_go.result
    false c.if-not-lets_go.true c.lets_go.ensures.answered

pub lets_go-requires : goal.lets_go-requires
lets_go-requires g c =
    let laws = g.met.G.Gate g.world.𝓛 g.world.𝓜 g.world.𝓡 ((λ s x. x), (λ x. x), (λ x. x), λ x. x) in (
      c.type_bounds.send-G,
      subst (λ (node : ℕ). g.G.Gate.asks c.args.at.now.gate node c.args.number c.wait_in_vain.new.tries)
          (sym (same_node g (goal.at.lets_go-requires g c).In_default))
          (laws.next_try c.args.at.now.gate c.args.self.now.done.node c.args.number c.loop.tries
          c.wait_in_vain.new.tries Go c.loop.invariant.go go_on c.wait_in_vain.ensures),
    )
