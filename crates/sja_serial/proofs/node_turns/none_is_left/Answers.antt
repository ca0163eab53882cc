use Rattle.std.proofs.Common.{rules, ◌≡◌, ◌<◌, ◌≤◌, ℕ, List, length, sym, ap, ◌∙◌, subst, arith, inl, inr}
use Rattle.std.specs.Prelude.{slice_index_or}
use Rattle.std.proofs.lemmas.Bool.{cases_lt}
use Rattle.sja_driver.specs.StepRuns.{StepRun, step_runs_at}
use Rattle.sja_driver.specs.LoggedDrivers.{log_of}
use Rattle.sja_driver.specs.Logs.{done_in}
use Rattle.sja_driver.specs.declared.logged_driver.LoggedDriver.{LoggedDriver}
use Rattle.sja_plan.specs.Plan.{steps_at}
use Rattle.sja_regs.specs.Registers.{at_power_on}
use Rattle.sja_serial.specs.Ending.{setup_of}
use Rattle.sja_serial.specs.Inside.SerialProgress.{StandsIn}
use Rattle.sja_serial.proofs.AllNodes.Several.{done_count}
use Rattle.sja_serial.proofs.node_turns.none_is_left.Goals.{After-done_count}
use Rattle.sja_serial.proofs.node_turns.none_is_left.Goals as goal

-- a node that is there
there : (c : After-done_count) → c.loop-node.node < length c.args.plan.now.nodes
there c = search rules

-- how many steps its driver has done
many_done : (c : After-done_count) (step_runs : List (List StepRun)) →
    StandsIn c.args.plan.now c.args.run.now step_runs →
    c.done_count.result ≡ length (step_runs_at step_runs c.loop-node.node)
many_done c step_runs h =
    c.done_count.ensures ∙ ap (λ l. length l) (ap done_in c.log.ensures
    ∙ ap (λ (d : LoggedDriver). done_in (log_of d)) c.driver.ensures)
    ∙ done_count (setup_of c.args.plan.now) c.args.run.now step_runs c.loop-node.node c.driver.result.now
    (at_power_on 1) h.by (there c)

pub loop-node-preserved : goal.loop-node-preserved
loop-node-preserved c = λ step_runs h k less.
    let at = (goal.at.loop-node-preserved c).After-done_count in
    let all = ap (λ l. length l) c.steps.ensures.value in let done = many_done at step_runs h in
    let few = c.if-done_count-steps.false in
    elim (cases_lt k c.loop-node.node) [
      | inl before ↦ c.loop-node.invariant step_runs h k before
      | inr here ↦
          let e : c.loop-node.node ≡ k = omega (arith, here, less) in
          subst (λ (n : ℕ). length (steps_at c.args.plan.now n) ≤ length (step_runs_at step_runs n)) e
          (omega (arith, all, done, few))
    ]

pub returns-then-done_count-steps-clause-some : goal.returns-then-done_count-steps-clause-some
returns-then-done_count-steps-clause-some c = λ is step_runs h.
    let at = (goal.at.returns-then-done_count-steps-clause-some c).After-done_count in
    let all = ap (λ l. length l) c.steps.ensures.value in let done = many_done at step_runs h in
    let less = c.if-done_count-steps.true in
    (c.loop-node.node, there at, omega (arith, all, done, less))
