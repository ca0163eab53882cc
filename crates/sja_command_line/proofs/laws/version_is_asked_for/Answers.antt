use Rattle.sja_command_line.proofs.LiteralWords.PlainWords.{long_version, short_version}
use Rattle.sja_command_line.proofs.laws.version_is_asked_for.Goals as goal

pub returns-clause-long : goal.returns-clause-long
returns-clause-long c = long_version

pub returns-clause-short : goal.returns-clause-short
returns-clause-short c = short_version
