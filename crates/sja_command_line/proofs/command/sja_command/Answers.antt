use Rattle.sja_command_line.specs.CommandLine.{empty_app, sja_app}
use Rattle.sja_command_line.specs.Inside.Table.{with_apps}
use Rattle.sja_command_line.proofs.Requests.Commands.{whole_read}
use Rattle.sja_command_line.proofs.command.sja_command.Goals as goal

pub returns : goal.returns
returns c =
    whole_read c.program_of.result (with_apps empty_app c.commands.result.now) sja_app c.program_of.ensures
    c.commands.ensures
