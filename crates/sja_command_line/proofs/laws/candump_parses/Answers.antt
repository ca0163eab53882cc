use Rattle.sja_command_line.proofs.LiteralWords.PlainFiles.{candump_file}
use Rattle.sja_command_line.proofs.LiteralWords.PlainPictures.{plain, errors, candump_in_threads}
use Rattle.sja_command_line.proofs.laws.candump_parses.Goals as goal

pub returns-clause-plain : goal.returns-clause-plain
returns-clause-plain c = plain

pub returns-clause-errors : goal.returns-clause-errors
returns-clause-errors c = errors

pub returns-clause-threads : goal.returns-clause-threads
returns-clause-threads c = candump_in_threads

pub returns-clause-file : goal.returns-clause-file
returns-clause-file c = candump_file
