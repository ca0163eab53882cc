use Rattle.std.proofs.Common.{refl, arith}
use Rattle.sja_steps.specs.declared.step.Step.TheVariants as step
use Rattle.sja_driver.specs.Inside.Attempts.{stopped_by}
use Rattle.sja_driver.specs.LoggedDrivers.{ended_of}
use Rattle.sja_driver.proofs.LogOfSteps.Logged.{stays_lawful, steps_of}
use Rattle.sja_driver.proofs.LogOfSteps.Stepping.{is_among}
use Rattle.sja_driver.proofs.logged_driver.LoggedDriver.step_stop.Goals as goal

pub returns-clause-stays : goal.returns-clause-stays
returns-clause-stays g c =
    let e = g.E.DriverEnd in
    let stopped = c.stop_step-stopped in
    stays_lawful e.same e.stands e.dry e.full c.args.self.now _ c.args.end.now stopped.new.end c.args.port.now
    stopped.new.port step.Stop (stopped_by stopped.result) c.enter_stop.result c.requires.lawful
    c.requires.room.left stopped.ensures.acts stopped.ensures.same stopped.ensures.others refl refl
    c.enter_stop.ensures

pub returns-clause-steps : goal.returns-clause-steps
returns-clause-steps g c =
    let e = g.E.DriverEnd in
    let stopped = c.stop_step-stopped in
    steps_of e.same e.stands e.dry e.full c.args.self.now _ c.args.end.now stopped.new.end c.args.port.now
    stopped.new.port step.Stop (stopped_by stopped.result) c.enter_stop.result c.requires.lawful stopped.ensures.acts
    stopped.ensures.others c.enter_stop.ensures

pub enter_stop-requires-clause-room : goal.enter_stop-requires-clause-room
enter_stop-requires-clause-room g c = let r = c.requires.room.releases in omega (arith, r)

pub enter_stop-requires-clause-fits : goal.enter_stop-requires-clause-fits
enter_stop-requires-clause-fits g c =
    let tried = c.stop_step-stopped in
    let acts = tried.ensures.acts in
    let node = c.args.self.now.node in
    let ended = ended_of c.args.self.now in
    is_among c.args.port.now step.Stop node ended _ c.args.self.now.driver tried.new.driver (stopped_by tried.result)
    c.requires.lawful.few acts.opens (acts.place node ended c.requires.lawful.own) acts.quiet
