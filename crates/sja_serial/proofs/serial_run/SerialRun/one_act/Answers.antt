use Rattle.std.proofs.Common.{[], refl, ap, ◌∙◌, arith}
use Rattle.sja_driver.specs.TypedActs.{with_acts}
use Rattle.sja_driver.specs.Kept.{moved_by_answer}
use Rattle.sja_serial.specs.Serial.{all_acts}
use Rattle.sja_serial.proofs.TypedActs.StepRun.{act_left, acts_left, done_as_act, few_at, log_left, waits_by}
use Rattle.sja_serial.proofs.TypedActs.Parts.{fits, no_acts_yet}
use Rattle.sja_serial.proofs.serial_run.SerialRun.one_act.Goals as goal

pub act-requires : goal.act-requires
act-requires g c = act_left c.requires.0.1 c.requires.1.0

pub enter-requires-clause-there : goal.enter-requires-clause-there
enter-requires-clause-there g c =
    let h = c.requires.0.1 in let room = c.requires.1.0 in
    let d = c.in-Some.ensures.done (all_acts c.requires.0.0) h.stands (few_at h room) in
    let n = d.does.stands.count.drivers in let t = room.there in omega (arith, n, t)

pub enter-requires-clause-room : goal.enter-requires-clause-room
enter-requires-clause-room g c =
    let h = c.requires.0.1 in let room = c.requires.1.0 in
    let d = c.in-Some.ensures.done (all_acts c.requires.0.0) h.stands (few_at h room) in
    log_left h room c.act.new.self (λ x. d.logs c.args.node x room.there)

pub returns-in-Some-clause-done : goal.returns-in-Some-clause-done
returns-in-Some-clause-done g c = λ yes step_runs h.
    let room = c.requires.1.0 in let none = no_acts_yet room.there h in let left = (acts_left h room).0 in
    let d = c.in-Some.ensures.done (with_acts (all_acts step_runs) c.args.node []) none.stands
    (fits room.there h none (omega (arith, left))) in
    done_as_act h room.there d c.enter.ensures (λ x p. c.answered.ensures
    ∙ ap (λ k. moved_by_answer k c.in-Some.answer) (c.kept_by_step-kept.ensures x p)) c.requires.1.1 refl

pub returns-in-None-clause-waits : goal.returns-in-None-clause-waits
returns-in-None-clause-waits g c = λ no step_runs h.
    waits_by h (c.act.ensures.waits c.in-None.is (all_acts step_runs) h.stands (few_at h c.requires.1.0))
