use Rattle.sja_command_line.proofs.LiteralWords.PlainWords.{empty_form, form}
use Rattle.sja_command_line.proofs.laws.message_and_a_text_parses.Goals as goal

pub returns-clause-empty : goal.returns-clause-empty
returns-clause-empty c = empty_form

pub returns-clause-text : goal.returns-clause-text
returns-clause-text c = form
