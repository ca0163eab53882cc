use Rattle.std.proofs.Common.{refl}
use Rattle.sja_driver.proofs.LogOfSteps.Looking.{looked_by, stays_looked}
use Rattle.sja_driver.proofs.logged_driver.LoggedDriver.seen.Goals as goal

pub returns-clause-looked : goal.returns-clause-looked
returns-clause-looked g c =
    let e = g.E.DriverEnd in
    looked_by e.stands e.dry c.args.self.now _ c.args.end.now c.observe.new.end c.requires.lawful refl
    c.observe.ensures.observes c.observe.ensures.others

pub returns-clause-stays : goal.returns-clause-stays
returns-clause-stays g c =
    let e = g.E.DriverEnd in
    stays_looked e.same e.stands e.dry c.args.self.now _ c.args.end.now c.observe.new.end c.requires.lawful refl refl
    refl c.observe.ensures.same c.observe.ensures.others c.observe.ensures.observes
