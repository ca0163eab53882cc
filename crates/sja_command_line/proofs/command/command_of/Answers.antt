use Rattle.std.proofs.Common.{arith}
use Rattle.sja_command_line.specs.Inside.Parser.{IsHeld, IsHeldAs}
use Rattle.sja_command_line.specs.Inside.Table.{app_in}
use Rattle.sja_command_line.proofs.Requests.Commands.{next_rule, rules_done}
use Rattle.sja_command_line.proofs.command.command_of.Goals as goal

pub loop-argument-preserved : goal.loop-argument-preserved
loop-argument-preserved c =
    next_rule c.loop-argument.command c.in_ok-command.command c.argument_of.result c.args.row.now.arguments.now
    c.loop-argument.argument-index _ (app_in c.args.row.now) (omega (arith, c.loop-argument-test.true))
    c.in_ok-command.ensures c.argument_of.ensures c.loop-argument.invariant

pub returns : goal.returns
unfolding IsHeld IsHeldAs
returns c =
    rules_done c.loop-argument.command c.args.row.now.arguments.now c.loop-argument.argument-index
    (app_in c.args.row.now) (omega (arith, c.loop-argument-test.false)) c.loop-argument.invariant
