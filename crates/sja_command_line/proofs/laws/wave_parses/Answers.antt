use Rattle.sja_command_line.proofs.LiteralWords.PlainFiles.{wave_file}
use Rattle.sja_command_line.proofs.LiteralWords.PlainWords.{wave_alone, wave_in_threads}
use Rattle.sja_command_line.proofs.laws.wave_parses.Goals as goal

pub returns-clause-one : goal.returns-clause-one
returns-clause-one c = wave_alone

pub returns-clause-threads : goal.returns-clause-threads
returns-clause-threads c = wave_in_threads

pub returns-clause-file : goal.returns-clause-file
returns-clause-file c = wave_file
