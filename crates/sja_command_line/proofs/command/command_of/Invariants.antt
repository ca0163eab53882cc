use Rattle.sja_command_line.specs.Inside.Table.{app_in, with_rules}
use Rattle.sja_command_line.proofs.Requests.Commands.{IsLeft}
use Rattle.sja_command_line.proofs.command.command_of.Given as goal

abbrev pub invariant-loop-argument : goal.invariant-loop-argument
invariant-loop-argument l = IsLeft with_rules l.command l.argument-items l.argument-index (app_in l.row)
