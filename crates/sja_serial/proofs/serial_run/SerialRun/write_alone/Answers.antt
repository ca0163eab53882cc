use Rattle.std.proofs.Common.{[], ap, ◌∙◌, arith}
use Rattle.std.specs.Prelude.{slice_index_or}
use Rattle.sja_regs.specs.Registers.{at_power_on}
use Rattle.sja_bus_rules.specs.Wire.{journal_at}
use Rattle.sja_driver.specs.TypedActs.{acts_at, with_acts}
use Rattle.sja_driver.specs.Written.{written_then}
use Rattle.sja_serial.specs.Serial.{all_acts}
use Rattle.sja_serial.proofs.TypedActs.StepRun.{act_left, acts_left, few_at, log_left, never_waits}
use Rattle.sja_serial.proofs.TypedActs.Parts.{fits, no_acts_yet}
use Rattle.sja_serial.proofs.TypedActs.Writing.{done_as_one}
use Rattle.sja_serial.proofs.serial_run.SerialRun.write_alone.Goals as goal

pub act-requires : goal.act-requires
act-requires g c = act_left c.requires.0.1 c.requires.1.0

pub enter-requires-clause-there : goal.enter-requires-clause-there
enter-requires-clause-there g c =
    let h = c.requires.0.1 in let room = c.requires.1.0 in
    let d = c.in-Some.ensures.done (all_acts c.requires.0.0) h.stands (few_at h room) in
    let n = d.does.stands.count.drivers in let t = room.there in omega (arith, n, t)

pub enter-requires-clause-room : goal.enter-requires-clause-room
enter-requires-clause-room g c =
    let h = c.requires.0.1 in let room = c.requires.1.0 in
    let d = c.in-Some.ensures.done (all_acts c.requires.0.0) h.stands (few_at h room) in
    log_left h room c.act.new.self (λ x. d.logs c.args.node x room.there)

pub unreachable-requires : goal.unreachable-requires
unreachable-requires g c =
    let h = c.requires.0.1 in let acts = all_acts c.requires.0.0 in
    never_waits (slice_index_or c.act.new.self.ports c.args.node (at_power_on 1))
    (journal_at c.act.new.self.bus.journals c.args.node) (acts_at acts c.args.node) c.args.step.now
    c.requires.1.1.1.0
    ((c.act.ensures.waits c.in-None.is acts h.stands (few_at h c.requires.1.0)).why (at_power_on 1))

pub returns : goal.returns
returns g c = λ step_runs h.
    let room = c.requires.1.0 in let none = no_acts_yet room.there h in let left = (acts_left h room).0 in
    let d = c.in-Some.ensures.done (with_acts (all_acts step_runs) c.args.node []) none.stands
    (fits room.there h none (omega (arith, left))) in
    done_as_one c.answered.new.self h room.there d c.enter.ensures c.answer.ensures c.requires.1.1.0 c.requires.1.1.1.1
    (λ x p. c.answered.ensures
    ∙ ap (λ w. written_then w c.in-Some.answer) (c.begin_write-written.ensures x p))
