use Rattle.sja_command_line.proofs.LiteralWords.PlainWords.{live_alone}
use Rattle.sja_command_line.proofs.laws.live_parses.Goals as goal

pub returns : goal.returns
returns c = live_alone
