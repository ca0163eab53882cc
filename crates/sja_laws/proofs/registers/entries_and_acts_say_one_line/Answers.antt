use Rattle.std.proofs.Common.{ap}
use Rattle.sja_regs.specs.declared.registers.Registers.{Registers}
use Rattle.sja_regs.specs.InterruptLine.{is_line_active}
use Rattle.sja_laws.proofs.OneNode.OnePort.{port_once}
use Rattle.sja_laws.proofs.registers.entries_and_acts_say_one_line.Goals as goal

pub returns : goal.returns
returns c = λ version j acts p q seen led lead.
    ap (λ (r : Registers). is_line_active r seen) (port_once version j acts p q led lead)
