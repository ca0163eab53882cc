use Rattle.sja_command_line.proofs.LiteralWords.PlainFiles.{expected_file, expected_files, expected_input}
use Rattle.sja_command_line.proofs.laws.expected_parses.Goals as goal

pub returns-clause-input : goal.returns-clause-input
returns-clause-input c = expected_input

pub returns-clause-file : goal.returns-clause-file
returns-clause-file c = expected_file

pub returns-clause-two : goal.returns-clause-two
returns-clause-two c = expected_files
