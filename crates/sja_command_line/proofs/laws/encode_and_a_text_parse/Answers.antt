use Rattle.sja_command_line.proofs.LiteralWords.PlainWords.{empty_text, text}
use Rattle.sja_command_line.proofs.laws.encode_and_a_text_parse.Goals as goal

pub returns-clause-empty : goal.returns-clause-empty
returns-clause-empty c = empty_text

pub returns-clause-text : goal.returns-clause-text
returns-clause-text c = text
