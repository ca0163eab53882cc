use Rattle.std.proofs.Common.{ℕ, length, refl, sym, ap, ◌∙◌, subst}
use Rattle.sja_regs.specs.DriverSettings.{SettingsValue, settings_in}
use Rattle.sja_regs.specs.Registers.{at_power_on}
use Rattle.sja_driver.specs.StepRuns.{by_bytes}
use Rattle.sja_driver.specs.LoggedDrivers.{node_of, log_of}
use Rattle.sja_driver.specs.Logs.{KeepsLog, done_in}
use Rattle.sja_thread_promises.specs.Asking.{IsLet}
use Rattle.sja_threads.specs.Working.{HasWorked}
use Rattle.sja_threads.specs.Inside.Names.{IsNamed}
use Rattle.sja_threads.specs.Inside.Steps.{MayBegin}
use Rattle.sja_threads.proofs.Driver.Script.{all_done, begins, worked_by}
use Rattle.sja_threads.proofs.driver_thread.follow.Given.{Over}
use Rattle.sja_threads.proofs.driver_thread.follow.Goals.{After-new-driver}
use Rattle.sja_threads.proofs.driver_thread.follow.Goals as goal

-- as it begins
may_begin : (g : Over) (c : After-new-driver g) → MayBegin g.D.DriverEnd.node (record {
  bytes = c.by_bytes-bytes.result;
  driver = c.new-driver.result;
  set = c.at_power_on-set.result;
  found = 0;
  end = c.args.end;
  done = c.args.done;
}) (length c.args.steps.now)
may_begin g c =
    let first = c.new-driver.ensures in let r = c.requires in
    begins g.D.DriverEnd.node _ c.args.done.node (length c.args.steps.now) c.args.log
    (c.by_bytes-bytes.ensures ∙ ap (λ s. by_bytes s.version) (sym c.at_power_on-set.ensures)) r.none
    c.at_power_on-set.ensures first.node first.log first.kept first.reset first.lawful first.traces refl r.empty
    r.room r.steps r.own

pub do_steps-requires : goal.do_steps-requires
do_steps-requires g c = (c.type_bounds.send-G, may_begin g (goal.at.do_steps-requires g c).After-new-driver)

pub returns-clause-same : goal.returns-clause-same
returns-clause-same g c =
    subst (λ w. g.D.DriverEnd.same c.args.end w.end) (sym c.hand_back.ensures) c.do_steps.ensures.ended.does.alike

pub returns-clause-worked : goal.returns-clause-worked
returns-clause-worked g c =
    let now = c.do_steps.new.self in
    let first = c.new-driver.ensures in
    subst (λ w. HasWorked g.D.DriverEnd.stands (settings_in (at_power_on c.args.done.version)) c.args.done.node
    c.args.steps.now c.args.end w w.done.list)
    (sym c.hand_back.ensures)
    (subst (λ (n : ℕ). HasWorked g.D.DriverEnd.stands (settings_in (at_power_on c.args.done.version)) n
    c.args.steps.now c.args.end
    (record { end = now.end; driver = now.driver; done = now.done.known }) now.done.known.list) first.node
    (subst (λ (s : SettingsValue). HasWorked g.D.DriverEnd.stands s (node_of c.new-driver.result) c.args.steps.now
    c.args.end
    (record { end = now.end; driver = now.driver; done = now.done.known }) now.done.known.list)
    c.at_power_on-set.ensures
    (worked_by g.D.DriverEnd g.G.Gate.QUITS _ now c.args.steps.now
    (may_begin g (goal.at.returns-clause-worked g c).After-new-driver) c.do_steps.ensures.ended)))

pub returns-clause-named : goal.returns-clause-named
returns-clause-named g c =
    subst (λ w. IsNamed g.N.Order.acts c.args.done.node w.done.name)
    (sym c.hand_back.ensures)
    (subst (λ (n : ℕ). IsNamed g.N.Order.acts n c.do_steps.new.self.done.known.name) c.do_steps.ensures.ended.does.same
    c.do_steps.new.self.done.named)

pub returns-clause-keeps : goal.returns-clause-keeps
returns-clause-keeps g c = λ keeps.
    subst (λ w. KeepsLog (log_of w.driver)) (sym c.hand_back.ensures)
    (c.do_steps.ensures.ended.does.keeps (subst (λ l. KeepsLog l) (sym c.new-driver.ensures.log) keeps))

pub returns-clause-done : goal.returns-clause-done
returns-clause-done g c = λ never.
    ap (λ w. length (done_in (log_of w.driver))) c.hand_back.ensures
    ∙ all_done g.D.DriverEnd g.G.Gate.QUITS _ c.do_steps.new.self c.args.steps.now c.do_steps.ensures.ended never

pub returns-clause-let_by : goal.returns-clause-let_by
returns-clause-let_by g c =
    subst (λ w. IsLet g.G.Gate.QUITS g.G.Gate.answered c.args.at.gate c.args.done.node (length c.args.steps.now)
    (length (done_in (log_of w.driver)))) (sym c.hand_back.ensures) c.do_steps.ensures.let_by
