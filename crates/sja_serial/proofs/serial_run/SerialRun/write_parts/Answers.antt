use Rattle.std.proofs.Common.{rules, ◌≡◌, ◌++◌, [], ap, ◌∙◌, arith}
use Rattle.std.specs.Prelude.{slice_index_or}
use Rattle.sja_regs.specs.declared.registers.Registers.{Registers}
use Rattle.sja_driver.specs.Written.{written_by}
use Rattle.sja_serial.specs.Serial.{SerialValue, all_acts}
use Rattle.sja_serial.proofs.TypedActs.StepRun.{act_left, few_first, few_second, few_third, all_steps, all_written}
use Rattle.sja_serial.proofs.TypedActs.StepRun.{done_as_write, log_left, placed}
use Rattle.sja_serial.proofs.TypedActs.Parts.{driver_lawful, has_act_left, no_acts_yet, steps_there}
use Rattle.sja_serial.proofs.serial_run.SerialRun.write_parts.Goals as goal

pub bits_left-requires : goal.bits_left-requires
bits_left-requires g c = (all_acts c.requires.0.0, c.requires.0.1.stands)

pub steps_of_write-steps-requires : goal.steps_of_write-steps-requires
steps_of_write-steps-requires g c =
    let place : c.from-place.result ≡ c.args.node = search rules in
    let drivers = ap (λ (r : SerialValue). r.drivers) c.self.view_is in
    driver_lawful c.args.node c.index.result.now c.requires.0.1.stands c.requires.1.0.there
    (c.index.ensures ∙ (λ i. slice_index_or (drivers i) (place i) c.index.result.now))

pub part-written-requires : goal.part-written-requires
part-written-requires g c = (c.steps_of_write-steps.ensures.prompt.0, act_left c.requires.0.1 c.requires.1.0)

pub part-written-requires-2 : goal.part-written-requires-2
part-written-requires-2 g c =
    let h = c.requires.0.1 in let room = c.requires.1.0 in let bytes = c.requires.1.1 in let there = room.there in
    let one = c.part-written.ensures c.args.self.now c.requires.0.0 [] h (no_acts_yet there h)
    (few_first h room bytes) in
    (c.steps_of_write-steps.ensures.prompt.1, has_act_left there h one.does (few_second h room bytes one))

pub part-written-requires-3 : goal.part-written-requires-3
part-written-requires-3 g c =
    let h = c.requires.0.1 in let room = c.requires.1.0 in let bytes = c.requires.1.1 in let there = room.there in
    let one = c.part-written.ensures c.args.self.now c.requires.0.0 [] h (no_acts_yet there h)
    (few_first h room bytes) in
    let two = c.part-written-2.ensures c.args.self.now c.requires.0.0 one.acts h one.does
    (few_second h room bytes one) in
    (c.steps_of_write-steps.ensures.prompt.2, has_act_left there h two.does (few_third h room bytes one two))

pub enter-requires-clause-there : goal.enter-requires-clause-there
enter-requires-clause-there g c =
    let h = c.requires.0.1 in let room = c.requires.1.0 in let bytes = c.requires.1.1 in let there = room.there in
    let one = c.part-written.ensures c.args.self.now c.requires.0.0 [] h (no_acts_yet there h)
    (few_first h room bytes) in
    let two = c.part-written-2.ensures c.args.self.now c.requires.0.0 one.acts h one.does
    (few_second h room bytes one) in
    let three = c.part-written-3.ensures c.args.self.now c.requires.0.0 (one.acts ++ two.acts) h two.does
    (few_third h room bytes one two) in
    let n = three.does.stands.count.drivers in omega (arith, n, there)

pub enter-requires-clause-room : goal.enter-requires-clause-room
enter-requires-clause-room g c =
    let h = c.requires.0.1 in let room = c.requires.1.0 in let bytes = c.requires.1.1 in let there = room.there in
    let one = c.part-written.ensures c.args.self.now c.requires.0.0 [] h (no_acts_yet there h)
    (few_first h room bytes) in
    let two = c.part-written-2.ensures c.args.self.now c.requires.0.0 one.acts h one.does
    (few_second h room bytes one) in
    let three = c.part-written-3.ensures c.args.self.now c.requires.0.0 (one.acts ++ two.acts) h two.does
    (few_third h room bytes one two) in
    log_left h room c.part-written-3.new.self (λ d. three.does.logs c.args.node d there)

pub returns : goal.returns
returns g c = λ step_runs h.
    let room = c.requires.1.0 in let bytes = c.requires.1.1 in let there = room.there in
    let was = c.args.self.now in let node = c.args.node in
    let one = c.part-written.ensures was step_runs [] h (no_acts_yet there h) (few_first h room bytes) in
    let two = c.part-written-2.ensures was step_runs one.acts h one.does (few_second h room bytes one) in
    let three = c.part-written-3.ensures was step_runs (one.acts ++ two.acts) h two.does
    (few_third h room bytes one two) in
    let place : c.from-place.result ≡ node = search rules in
    let ports = ap (λ (r : SerialValue). r.ports) c.self.view_is in
    let drivers = ap (λ (r : SerialValue). r.drivers) c.self.view_is in
    let steps = λ (p : Registers). steps_there node c.index.result.now c.index-port.result.now h there
    (c.index.ensures ∙ (λ i. slice_index_or (drivers i) (place i) c.index.result.now))
    (c.index-port.ensures ∙ (λ i. slice_index_or (ports i) (place i) c.index-port.result.now)) p c.args.address
    c.args.value in
    done_as_write h there ((one.acts ++ two.acts) ++ three.acts) c.part-written-3.result three.does c.enter.ensures
    c.answer.ensures (placed h.stands there c.bits_left.ensures.lawful) bytes
    (λ p. all_steps one two three ∙ c.steps_of_write-steps.ensures.are ∙ steps p)
    (λ x p. all_written one two three
    ∙ ap (λ w. written_by w ((one.acts ++ two.acts) ++ three.acts)) (c.begin_write-written.ensures x p))
