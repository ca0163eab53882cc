use Rattle.std.proofs.Common.{arith}
use Rattle.sja_command_line.specs.CommandLine.{empty_app}
use Rattle.sja_command_line.specs.Inside.Parser.{IsHeld, IsHeldAs}
use Rattle.sja_command_line.specs.Inside.Table.{with_apps}
use Rattle.sja_command_line.proofs.Requests.Commands.{apps_done, next_app}
use Rattle.sja_command_line.proofs.command.program_of.Goals as goal

pub loop-row-preserved : goal.loop-row-preserved
unfolding IsHeld IsHeldAs
loop-row-preserved c =
    next_app c.loop-row.command c.in_ok-command.command c.in_ok-command_of.field-0 c.args.rows.now c.loop-row.row-index
    _ (with_apps empty_app c.args.rows.now) (omega (arith, c.loop-row-test.true)) c.in_ok-command.ensures
    c.in_ok-command_of.ensures c.loop-row.invariant

pub returns : goal.returns
returns c =
    apps_done c.loop-row.command c.args.rows.now c.loop-row.row-index (with_apps empty_app c.args.rows.now)
    (omega (arith, c.loop-row-test.false)) c.loop-row.invariant
