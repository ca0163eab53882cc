use Rattle.sja_regs.specs.Commands.{command_of}
use Rattle.sja_driver.proofs.Bytes.CommandBytes.{none_refused}
use Rattle.sja_driver.proofs.laws.no_command_is_refused.Goals as goal

pub returns : goal.returns
returns c = λ p value rm. none_refused p (command_of value) rm
