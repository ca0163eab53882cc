use Rattle.std.proofs.Common.{refl}
use Rattle.sja_steps.specs.declared.step.Step.TheVariants as step
use Rattle.sja_regs.specs.Registers.{at_power_on}
use Rattle.sja_driver.specs.Inside.Attempts.{tried_of}
use Rattle.sja_driver.specs.LoggedDrivers.{ended_of}
use Rattle.sja_driver.proofs.LogOfSteps.Logged.{opens_none, stays_few, steps_of}
use Rattle.sja_driver.proofs.LogOfSteps.Stepping.{is_among}
use Rattle.sja_driver.proofs.logged_driver.LoggedDriver.step_window.Goals as goal

pub returns-clause-stays : goal.returns-clause-stays
returns-clause-stays g c =
    let e = g.E.DriverEnd in
    let tried = c.window_step-attempt in
    let p = at_power_on 1 in
    let o = tried_of tried.result in
    stays_few e.same e.stands e.dry e.full c.args.self.now _ c.args.end.now tried.new.end p p step.Window o
    c.enter.result c.requires.lawful (opens_none _ _ step.Window o (λ a. refl) c.requires.lawful.few)
    (tried.ensures.acts p) tried.ensures.same tried.ensures.others refl refl c.enter.ensures

pub returns-clause-steps : goal.returns-clause-steps
returns-clause-steps g c = λ p.
    let e = g.E.DriverEnd in
    let tried = c.window_step-attempt in
    steps_of e.same e.stands e.dry e.full c.args.self.now _ c.args.end.now tried.new.end p p step.Window
    (tried_of tried.result) c.enter.result c.requires.lawful (tried.ensures.acts p) tried.ensures.others
    c.enter.ensures

pub enter-requires-clause-fits : goal.enter-requires-clause-fits
enter-requires-clause-fits g c =
    let tried = c.window_step-attempt in
    let p = at_power_on 1 in
    let acts = tried.ensures.acts p in
    let node = c.args.self.now.node in
    let ended = ended_of c.args.self.now in
    is_among p step.Window node ended _ c.args.self.now.driver tried.new.driver (tried_of tried.result)
    c.requires.lawful.few acts.opens (acts.place node ended c.requires.lawful.own) acts.quiet
