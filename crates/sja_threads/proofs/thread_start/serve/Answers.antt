use Rattle.std.proofs.Common.{ℕ, length, sym, ap, ◌∙◌, subst}
use Rattle.sja_rings.specs.NodeRings.{NodeDriverLists}
use Rattle.sja_regs.specs.DriverSettings.{settings_in}
use Rattle.sja_regs.specs.Registers.{at_power_on}
use Rattle.sja_plan.specs.Plan.{steps_at}
use Rattle.sja_driver.specs.LoggedDrivers.{log_of}
use Rattle.sja_driver.specs.Logs.{done_in}
use Rattle.sja_thread_promises.specs.Asking.{IsLet}
use Rattle.sja_threads.specs.Working.{HasWorked}
use Rattle.sja_threads.specs.Inside.Names.{IsNamed}
use Rattle.sja_threads.proofs.Start.Threads.{served_by}
use Rattle.sja_threads.proofs.Twin.Led.{same_name}
use Rattle.sja_threads.proofs.thread_start.serve.Goals as goal

pub returns : goal.returns
returns g c =
    let f = c.follow.ensures in
    let d = c.new-done.ensures in
    let s = c.args.start in
    let w = c.follow.result in
    served_by c.args.plan.now s (settings_in (at_power_on c.new-done.result.version)) c.steps-steps.result.now
    (IsLet g.G.Gate.QUITS g.G.Gate.answered) w
    (ap (λ v. settings_in (at_power_on v)) (d.version ∙ c.version.ensures.value))
    (c.steps-steps.ensures.value ∙ ap (λ n. steps_at c.args.plan.now n) c.from.ensures) f.same
    (same_name g.N.Order.acts s.node w.done.name s.done.name
    (subst (λ (n : ℕ). IsNamed g.N.Order.acts n w.done.name) d.node f.named) c.requires.order.1)
    (subst (λ (n : ℕ). HasWorked NodeDriverLists (settings_in (at_power_on c.new-done.result.version)) n
    c.steps-steps.result.now s.end w w.done.list) d.node f.worked)
    (subst (λ (n : ℕ). IsLet g.G.Gate.QUITS g.G.Gate.answered s.gate n (length c.steps-steps.result.now)
    (length (done_in (log_of w.driver)))) d.node
    (subst (λ (x : _). IsLet g.G.Gate.QUITS g.G.Gate.answered x c.new-done.result.node (length c.steps-steps.result.now)
    (length (done_in (log_of w.driver)))) c.new.ensures f.let_by)) (f.keeps c.requires.start.keeps)
