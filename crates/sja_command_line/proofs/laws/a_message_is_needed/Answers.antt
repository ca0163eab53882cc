use Rattle.sja_command_line.proofs.LiteralWords.PlainWords.{no_subcommand, no_message}
use Rattle.sja_command_line.proofs.laws.a_message_is_needed.Goals as goal

pub returns-clause-name : goal.returns-clause-name
returns-clause-name c = no_subcommand

pub returns-clause-encode : goal.returns-clause-encode
returns-clause-encode c = no_message
