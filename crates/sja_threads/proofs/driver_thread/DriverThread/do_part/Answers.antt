use Rattle.std.proofs.Common.{Some, None, refl}
use Rattle.sja_threads.proofs.Driver.Asked.{when_if}
use Rattle.sja_threads.proofs.Driver.Parts.{part_none, part_not, part_done}
use Rattle.sja_threads.proofs.driver_thread.DriverThread.do_part.Goals as goal

pub returns-in_default-clause-parts : goal.returns-in_default-clause-parts
returns-in_default-clause-parts g c =
    part_none g.D.DriverEnd g.met.D.DriverEnd.same_refl c.args.self.now c.args.part.now c.args.on.now c.in_default.is

pub returns-in_default-do_act-clause-parts : goal.returns-in_default-do_act-clause-parts
returns-in_default-do_act-clause-parts g c =
    part_not g.D.DriverEnd c.args.self.now c.do_act.new.self c.args.part.now c.in-Some.act c.do_act.result
    c.args.on.now c.in-Some.is c.in_default-do_act.is c.do_act.ensures.done

pub returns-clause-parts : goal.returns-clause-parts
returns-clause-parts g c =
    part_done g.D.DriverEnd c.args.self.now c.do_act.new.self c.args.part.now c.in-Some.act c.do_act.result
    c.in-Some-do_act.answer c.args.on.now c.answered.new.self c.in-Some.is c.in-Some-do_act.is
    c.do_act.ensures.done c.answered.ensures

pub returns-in_default-clause-answered : goal.returns-in_default-clause-answered
returns-in_default-clause-answered g c = c.requires.go

pub returns-in_default-do_act-clause-answered : goal.returns-in_default-do_act-clause-answered
returns-in_default-do_act-clause-answered g c =
    when_if g.G.Gate.answered c.args.at.now.gate _ _ c.args.number c.do_act.new.tries refl c.do_act.result None
    c.in_default-do_act.is c.do_act.ensures.answered

pub returns-clause-answered : goal.returns-clause-answered
returns-clause-answered g c =
    when_if g.G.Gate.answered c.args.at.now.gate _ _ c.args.number c.do_act.new.tries refl c.do_act.result
    (Some c.in-Some-do_act.answer) c.in-Some-do_act.is c.do_act.ensures.answered
