use Rattle.sja_command_line.proofs.LiteralWords.PlainFiles.{trace_file, trace_files}
use Rattle.sja_command_line.proofs.LiteralWords.PlainWords.{trace_alone, trace_in_threads}
use Rattle.sja_command_line.proofs.laws.trace_parses.Goals as goal

pub returns-clause-one : goal.returns-clause-one
returns-clause-one c = trace_alone

pub returns-clause-threads : goal.returns-clause-threads
returns-clause-threads c = trace_in_threads

pub returns-clause-file : goal.returns-clause-file
returns-clause-file c = trace_file

pub returns-clause-two : goal.returns-clause-two
returns-clause-two c = trace_files
