use Rattle.sja_command_line.proofs.LiteralWords.PlainFiles.{struck_file}
use Rattle.sja_command_line.proofs.LiteralWords.PlainSweeps.{plan, one_number, beside}
use Rattle.sja_command_line.proofs.laws.a_struck_plan_parses.Goals as goal

pub returns-clause-numbers : goal.returns-clause-numbers
returns-clause-numbers c = plan

pub returns-clause-one : goal.returns-clause-one
returns-clause-one c = one_number

pub returns-clause-beside : goal.returns-clause-beside
returns-clause-beside c = beside

pub returns-clause-file : goal.returns-clause-file
returns-clause-file c = struck_file
