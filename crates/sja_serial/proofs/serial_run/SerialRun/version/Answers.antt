use Rattle.std.proofs.Common.{ap, ◌∙◌, arith}
use Rattle.std.specs.Prelude.{slice_index_or}
use Rattle.sja_regs.specs.declared.registers.Registers.{Registers}
use Rattle.sja_serial.specs.Serial.{SerialValue}
use Rattle.sja_serial.proofs.AllNodes.Several.{first_driver, some_links}
use Rattle.sja_serial.proofs.serial_run.SerialRun.version.Goals as goal

pub returns : goal.returns
returns g c =
    let h = c.requires.1 in let few = h.may.few.0 in let drivers = h.count.drivers in let port = c.index.result.now in
    let own = (h.nodes 0 (first_driver c.args.self.now.drivers (omega (arith, few, drivers))) port some_links
    (omega (arith, few))).ported.version_is in
    c.version.ensures ∙ ap (λ (p : Registers). p.version) (c.index.ensures
    ∙ ap (λ (r : SerialValue). slice_index_or r.ports 0 port) c.self.view_is) ∙ own
