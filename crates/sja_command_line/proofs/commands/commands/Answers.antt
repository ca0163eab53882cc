use Rattle.std.proofs.Common.{refl}
use Rattle.sja_command_line.proofs.LiteralWords.OnWords.{sja_on_literals}
use Rattle.sja_command_line.proofs.commands.commands.Goals as goal

pub returns : goal.returns
unfolding sja_on_literals
returns c = refl
