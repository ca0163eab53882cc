use Rattle.std.proofs.Common.{ap, ◌∙◌, subst}
use Rattle.sja_bus_rules.specs.Buses.{BusValue}
use Rattle.sja_bus_rules.specs.Lawful.{IsBusRun}
use Rattle.sja_serial.specs.Serial.{SerialValue}
use Rattle.sja_serial.proofs.WholeRun.AccountsNow.{accounts_now}
use Rattle.sja_serial.proofs.serial_run.SerialRun.accounts.Goals as goal

pub returns : goal.returns
returns g c =
    let now = c.args.self.now in let stands = c.requires.1 in
    let right = ap (λ (r : SerialValue). r.bus.fault) c.self.view_is ∙ stands.right in
    accounts_now g.setup now c.requires.0 now.bus.script now.bus.run stands
    (subst (λ (b : BusValue). IsBusRun b.script b.run b.journals) (ap (λ (r : SerialValue). r.bus) c.self.view_is)
    (c.bits_run.ensures.lawful right))
