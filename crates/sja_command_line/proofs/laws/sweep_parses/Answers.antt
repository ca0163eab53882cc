use Rattle.sja_command_line.proofs.LiteralWords.PlainFiles.{sweep_file}
use Rattle.sja_command_line.proofs.LiteralWords.PlainSweeps.{all, named, pairs, flags, kinds, past}
use Rattle.sja_command_line.proofs.laws.sweep_parses.Goals as goal

pub returns-clause-all : goal.returns-clause-all
returns-clause-all c = all

pub returns-clause-named : goal.returns-clause-named
returns-clause-named c = named

pub returns-clause-pairs : goal.returns-clause-pairs
returns-clause-pairs c = pairs

pub returns-clause-flags : goal.returns-clause-flags
returns-clause-flags c = flags

pub returns-clause-kinds : goal.returns-clause-kinds
returns-clause-kinds c = kinds

pub returns-clause-past : goal.returns-clause-past
returns-clause-past c = past

pub returns-clause-file : goal.returns-clause-file
returns-clause-file c = sweep_file
