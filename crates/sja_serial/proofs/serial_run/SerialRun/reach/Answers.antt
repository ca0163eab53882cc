use Rattle.std.proofs.Common.{refl, ap, arith}
use Rattle.sja_regs.specs.Registers.{at_power_on}
use Rattle.sja_serial.specs.Serial.{SerialValue, all_acts}
use Rattle.sja_serial.proofs.TypedActs.StepRun.{done_as_reached, log_left, not_reached, placed}
use Rattle.sja_serial.proofs.serial_run.SerialRun.reach.Goals as goal

pub bits_left-requires : goal.bits_left-requires
bits_left-requires g c = (all_acts c.requires.0.0, c.requires.0.1.stands)

pub enter-requires-clause-there : goal.enter-requires-clause-there
enter-requires-clause-there g c =
    let n = c.requires.0.1.stands.count.drivers in let t = c.requires.1.0.there in omega (arith, n, t)

pub enter-requires-clause-room : goal.enter-requires-clause-room
enter-requires-clause-room g c = log_left c.requires.0.1 c.requires.1.0 c.args.self.now (λ d. refl)

pub returns-then-self-bits-clause-waits : goal.returns-then-self-bits-clause-waits
returns-then-self-bits-clause-waits g c = λ no step_runs h.
    let there = c.requires.1.0.there in let few = c.if-self-bits.true in
    let same = ap (λ (r : SerialValue). r.bits) c.self.view_is in
    not_reached h there (placed h.stands there c.bits_left.ensures.lawful) c.requires.1.1
    (omega (arith, few, same))

pub returns-clause-done : goal.returns-clause-done
returns-clause-done g c = λ yes_done step_runs h.
    let there = c.requires.1.0.there in let run = c.if-self-bits.false in
    let same = ap (λ (r : SerialValue). r.bits) c.self.view_is in
    done_as_reached h there c.enter.ensures (placed h.stands there c.bits_left.ensures.lawful) c.requires.1.1
    (omega (arith, run, same)) (λ x. c.kept_by_step-kept.ensures x (at_power_on 1))
