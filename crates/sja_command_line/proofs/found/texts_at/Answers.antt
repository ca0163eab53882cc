use Rattle.std.proofs.Common.{◌∙◌}
use Rattle.sja_command_line.proofs.Requests.Rows.{raw_values-rows}
use Rattle.sja_command_line.proofs.found.texts_at.Goals as goal

pub returns : goal.returns
returns c = c.get_strs.ensures ∙ raw_values-rows c.args.arguments.now c.args.id.now
