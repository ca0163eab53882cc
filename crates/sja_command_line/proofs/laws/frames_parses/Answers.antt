use Rattle.sja_command_line.proofs.LiteralWords.PlainFiles.{frames_jobs}
use Rattle.sja_command_line.proofs.LiteralWords.PlainWords.{frames_alone, frames_by_bits, frames_in_threads}
use Rattle.sja_command_line.proofs.laws.frames_parses.Goals as goal

pub returns-clause-one : goal.returns-clause-one
returns-clause-one c = frames_alone

pub returns-clause-threads : goal.returns-clause-threads
returns-clause-threads c = frames_in_threads

pub returns-clause-jobs : goal.returns-clause-jobs
returns-clause-jobs c = frames_jobs

pub returns-clause-bits : goal.returns-clause-bits
returns-clause-bits c = frames_by_bits
