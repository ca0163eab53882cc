use Rattle.sja_command_line.proofs.Requests.FileNames.{run_files}
use Rattle.sja_command_line.proofs.LiteralWords.PlainFiles.{run_jobs}
use Rattle.sja_command_line.proofs.LiteralWords.PlainWords.{run_alone, run_in_threads}
use Rattle.sja_command_line.proofs.laws.run_parses.Goals as goal

pub returns-clause-one : goal.returns-clause-one
returns-clause-one c = run_alone

pub returns-clause-threads : goal.returns-clause-threads
returns-clause-threads c = run_in_threads

pub returns-clause-files : goal.returns-clause-files
returns-clause-files c = run_files

pub returns-clause-jobs : goal.returns-clause-jobs
returns-clause-jobs c = run_jobs
