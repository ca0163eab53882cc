use Rattle.sja_command_line.proofs.Requests.FileNames.{check_files}
use Rattle.sja_command_line.proofs.LiteralWords.PlainWords.{check_alone, check_strict}
use Rattle.sja_command_line.proofs.laws.check_parses.Goals as goal

pub returns-clause-input : goal.returns-clause-input
returns-clause-input c = check_alone

pub returns-clause-strict : goal.returns-clause-strict
returns-clause-strict c = check_strict

pub returns-clause-files : goal.returns-clause-files
returns-clause-files c = check_files
