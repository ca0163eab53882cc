use Rattle.sja_command_line.proofs.LiteralWords.PlainFiles.{plan_alone, plan_file, plan_files}
use Rattle.sja_command_line.proofs.laws.plan_parses.Goals as goal

pub returns-clause-input : goal.returns-clause-input
returns-clause-input c = plan_alone

pub returns-clause-file : goal.returns-clause-file
returns-clause-file c = plan_file

pub returns-clause-two : goal.returns-clause-two
returns-clause-two c = plan_files
