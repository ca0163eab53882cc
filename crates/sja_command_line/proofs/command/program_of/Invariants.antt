use Rattle.sja_command_line.specs.CommandLine.{empty_app}
use Rattle.sja_command_line.specs.Inside.Table.{with_apps}
use Rattle.sja_command_line.proofs.Requests.Commands.{IsLeft}
use Rattle.sja_command_line.proofs.command.program_of.Given as goal

abbrev pub invariant-loop-row : goal.invariant-loop-row
invariant-loop-row l = IsLeft with_apps l.command l.rows l.row-index (with_apps empty_app l.rows)
