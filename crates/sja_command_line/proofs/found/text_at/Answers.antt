use Rattle.std.proofs.Common.{◌∙◌}
use Rattle.sja_command_line.proofs.Requests.Rows.{first_value-rows}
use Rattle.sja_command_line.proofs.found.text_at.Goals as goal

pub returns : goal.returns
returns c = c.get_str.ensures ∙ first_value-rows c.args.arguments.now c.args.id.now
