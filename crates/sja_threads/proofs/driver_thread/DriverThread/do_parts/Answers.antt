use Rattle.std.proofs.Common.{◌++◌, ◌+◌, true, false, length, refl, sym, ◌∙◌, arith}
use Rattle.lemmas.specs.Gathering.{total}
use Rattle.sja_driver.specs.WriteLists.{listed}
use Rattle.sja_threads.specs.Inside.Steps.{room_of}
use Rattle.sja_threads.proofs.Driver.Asked.{at_node, when}
use Rattle.sja_threads.proofs.Driver.Parts.{parts_able, parts_more, parts_wide}
use Rattle.sja_threads.proofs.Driver.Room.{room_second, room_third}
use Rattle.sja_threads.proofs.driver_thread.DriverThread.do_parts.Goals as goal

pub do_part-requires-2-clause-may : goal.do_part-requires-2-clause-may
do_part-requires-2-clause-may g c κs within =
    let s = c.args.steps.now in
    parts_able g.D.DriverEnd c.args.self.now c.do_part.new.self (listed s.first) c.do_part.result c.args.on.now
    c.do_part.new.on c.do_part.ensures.parts (length (listed s.second)) 1 (room_second s c.requires.last)
    c.requires.may

-- the node stays the same from part to part
pub do_part-requires-2-clause-go : goal.do_part-requires-2-clause-go
do_part-requires-2-clause-go g c κs within =
    when g.G.Gate.answered c.args.at.now.gate _ _ c.args.number c.do_part.new.tries
    (sym c.do_part.ensures.parts.does.same) c.do_part.result true c.if-not-do_part.false c.do_part.ensures.answered

pub do_part-requires-3-clause-go : goal.do_part-requires-3-clause-go
do_part-requires-3-clause-go g c κs within =
    when g.G.Gate.answered c.args.at.now.gate _ _ c.args.number c.do_part-2.new.tries
    (sym c.do_part-2.ensures.parts.does.same) c.do_part-2.result true c.if-not-do_part-2.false
    c.do_part-2.ensures.answered

pub returns-then-not-do_part-clause-answered : goal.returns-then-not-do_part-clause-answered
returns-then-not-do_part-clause-answered g c =
    when g.G.Gate.answered c.args.at.now.gate _ _ c.args.number c.do_part.new.tries refl c.do_part.result false
    c.if-not-do_part.true c.do_part.ensures.answered

pub returns-then-not-do_part-2-clause-answered : goal.returns-then-not-do_part-2-clause-answered
returns-then-not-do_part-2-clause-answered g c =
    when g.G.Gate.answered c.args.at.now.gate _ _ c.args.number c.do_part-2.new.tries c.do_part.ensures.parts.does.same
    c.do_part-2.result false c.if-not-do_part-2.true c.do_part-2.ensures.answered

pub returns-clause-answered : goal.returns-clause-answered
returns-clause-answered g c =
    at_node g.G.Gate.answered c.args.at.now.gate _ _ c.args.number c.do_part-3.new.tries
    (c.do_part-2.ensures.parts.does.same ∙ c.do_part.ensures.parts.does.same) _ c.do_part-3.ensures.answered

pub returns-then-not-do_part-clause-parts : goal.returns-then-not-do_part-clause-parts
returns-then-not-do_part-clause-parts g c =
    let s = c.args.steps.now in
    parts_wide g.D.DriverEnd c.args.self.now c.do_part.new.self (listed s.first) (listed s.second ++ listed s.third)
    c.do_part.result c.args.on.now c.do_part.new.on c.if-not-do_part.true c.do_part.ensures.parts

pub returns-then-not-do_part-2-clause-parts : goal.returns-then-not-do_part-2-clause-parts
returns-then-not-do_part-2-clause-parts g c =
    let s = c.args.steps.now in
    parts_more g.D.DriverEnd g.met.D.DriverEnd.same_trans c.args.self.now c.do_part.new.self c.do_part-2.new.self
    (listed s.first) (listed s.second ++ listed s.third) c.do_part.result _ c.args.on.now c.do_part.new.on
    c.do_part-2.new.on c.if-not-do_part.false c.do_part.ensures.parts
    (parts_wide g.D.DriverEnd c.do_part.new.self c.do_part-2.new.self (listed s.second) (listed s.third)
    c.do_part-2.result c.do_part.new.on c.do_part-2.new.on c.if-not-do_part-2.true c.do_part-2.ensures.parts)

pub do_part-requires-3-clause-may : goal.do_part-requires-3-clause-may
do_part-requires-3-clause-may g c κs within =
    let s = c.args.steps.now in
    let third = length (listed s.third) in
    let second = total room_of (listed s.second) in
    parts_able g.D.DriverEnd c.do_part.new.self c.do_part-2.new.self (listed s.second) c.do_part-2.result
    c.do_part.new.on c.do_part-2.new.on c.do_part-2.ensures.parts third (second + third) (omega arith)
    (parts_able g.D.DriverEnd c.args.self.now c.do_part.new.self (listed s.first) c.do_part.result c.args.on.now
    c.do_part.new.on c.do_part.ensures.parts (second + third) 1 (room_third s c.requires.last) c.requires.may)

pub returns-clause-parts : goal.returns-clause-parts
returns-clause-parts g c =
    let s = c.args.steps.now in
    parts_more g.D.DriverEnd g.met.D.DriverEnd.same_trans c.args.self.now c.do_part.new.self c.do_part-3.new.self
    (listed s.first) (listed s.second ++ listed s.third) c.do_part.result c.do_part-3.result c.args.on.now
    c.do_part.new.on c.do_part-3.new.on c.if-not-do_part.false c.do_part.ensures.parts
    (parts_more g.D.DriverEnd g.met.D.DriverEnd.same_trans c.do_part.new.self c.do_part-2.new.self c.do_part-3.new.self
    (listed s.second) (listed s.third) c.do_part-2.result c.do_part-3.result c.do_part.new.on c.do_part-2.new.on
    c.do_part-3.new.on c.if-not-do_part-2.false c.do_part-2.ensures.parts c.do_part-3.ensures.parts)
