-- What the values of the parser stand for (this project's own rule): its commands and arguments.
use Rattle.std.specs.Prelude.{◌≡◌, Result, IfOk, false}
use Rattle.clap.specs.Words.{App, Rule, app_of, rule_of}
use Rattle.clap.specs.declared.builder.arg.Arg.{Arg}
use Rattle.clap.specs.declared.builder.command.Command.{Command}
use Rattle.clap.specs.declared.builder.command.Command.TheViews.{out-Command}

-- the parser reads this of the command that was made, where memory wasn't refused, and none of its arguments counts for
-- commands of its own too
unfoldable pub IsHeldAs : {E : Type 0} → Result Command E → App → Type 0
IsHeldAs made app = IfOk made (λ command. (app_of command ≡ app) × ((out-Command command).has_globals ≡ false))

-- it reads this of this command, of which the same holds
unfoldable pub IsHeld : Command → App → Type 0
IsHeld command app = (app_of command ≡ app) × ((out-Command command).has_globals ≡ false)

-- it reads this of the argument, which doesn't count for commands below
unfoldable pub IsReadAs : Arg → Rule → Type 0
IsReadAs argument rule = (rule_of argument ≡ rule) × (argument.global ≡ false)
