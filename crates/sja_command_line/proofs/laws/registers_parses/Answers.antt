use Rattle.sja_command_line.proofs.LiteralWords.PlainFiles.{registers_alone, registers_bit, registers_file}
use Rattle.sja_command_line.proofs.LiteralWords.PlainFiles.{registers_past}
use Rattle.sja_command_line.proofs.laws.registers_parses.Goals as goal

pub returns-clause-all : goal.returns-clause-all
returns-clause-all c = registers_alone

pub returns-clause-bit : goal.returns-clause-bit
returns-clause-bit c = registers_bit

pub returns-clause-file : goal.returns-clause-file
returns-clause-file c = registers_file

pub returns-clause-past : goal.returns-clause-past
returns-clause-past c = registers_past
