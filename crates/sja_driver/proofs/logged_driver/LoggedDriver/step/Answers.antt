use Rattle.std.proofs.Common.{refl, arith}
use Rattle.sja_driver.specs.Inside.Attempts.{tried_of}
use Rattle.sja_driver.specs.LoggedDrivers.{ended_of}
use Rattle.sja_driver.proofs.LogOfSteps.Logged.{stays_lawful, steps_of}
use Rattle.sja_driver.proofs.LogOfSteps.Stepping.{is_among}
use Rattle.sja_driver.proofs.logged_driver.LoggedDriver.step.Goals as goal

pub returns-clause-stays : goal.returns-clause-stays
returns-clause-stays g c =
    let e = g.E.DriverEnd in
    let tried = c.try_step-attempt in
    stays_lawful e.same e.stands e.dry e.full c.args.self.now _ c.args.end.now tried.new.end c.args.port.now
    tried.new.port c.args.step.now (tried_of tried.result) c.enter.result c.requires.lawful c.requires.room.left
    tried.ensures.acts tried.ensures.same tried.ensures.others refl refl c.enter.ensures

pub returns-clause-steps : goal.returns-clause-steps
returns-clause-steps g c =
    let e = g.E.DriverEnd in
    let tried = c.try_step-attempt in
    steps_of e.same e.stands e.dry e.full c.args.self.now _ c.args.end.now tried.new.end c.args.port.now
    tried.new.port c.args.step.now (tried_of tried.result) c.enter.result c.requires.lawful tried.ensures.acts
    tried.ensures.others c.enter.ensures

pub enter-requires-clause-room : goal.enter-requires-clause-room
enter-requires-clause-room g c = let r = c.requires.room.releases in omega (arith, r)

pub enter-requires-clause-fits : goal.enter-requires-clause-fits
enter-requires-clause-fits g c =
    let tried = c.try_step-attempt in
    let acts = tried.ensures.acts in
    let node = c.args.self.now.node in
    let ended = ended_of c.args.self.now in
    is_among c.args.port.now c.args.step.now node ended _ c.args.self.now.driver tried.new.driver
    (tried_of tried.result)
    c.requires.lawful.few acts.opens (acts.place node ended c.requires.lawful.own) acts.quiet
