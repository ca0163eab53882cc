use Rattle.std.proofs.Common.{rules, ◌≡◌, sym, ap, ◌∙◌}
use Rattle.std.specs.Prelude.{slice_index_or}
use Rattle.sja_serial.specs.Serial.{SerialValue}
use Rattle.sja_serial.proofs.TypedActs.Parts.{driver_lawful, steps_there}
use Rattle.sja_serial.proofs.serial_run.SerialRun.write_mode.Goals as goal

pub is_start-requires : goal.is_start-requires
is_start-requires g c =
    let place : c.from-place.result ≡ c.args.node = search rules in
    let drivers = ap (λ (r : SerialValue). r.drivers) c.self.view_is in
    driver_lawful c.args.node c.index.result.now c.requires.0.1.stands c.requires.1.0.there
    (c.index.ensures ∙ (λ i. slice_index_or (drivers i) (place i) c.index.result.now))

pub write_alone-requires-then-is_start : goal.write_alone-requires-then-is_start
write_alone-requires-then-is_start g c =
    let room = c.requires.1.0 in let place : c.from-place.result ≡ c.args.node = search rules in
    let ports = ap (λ (r : SerialValue). r.ports) c.self.view_is in
    let drivers = ap (λ (r : SerialValue). r.drivers) c.self.view_is in (
      c.requires.0,
      (
        room,
        (
          c.requires.1.1,
          (
            tt,
            λ step_runs h p. sym (steps_there c.args.node c.index.result.now c.index-port.result.now h room.there
                (c.index.ensures ∙ (λ i. slice_index_or (drivers i) (place i) c.index.result.now))
                (c.index-port.ensures ∙ (λ i. slice_index_or (ports i) (place i) c.index-port.result.now)) p 0
                c.args.value) ∙ c.is_start.ensures.alone c.if-is_start.true,
          ),
        ),
      ),
    )
