use Rattle.sja_command_line.proofs.Requests.Messages.{more_messages, no_messages, some_messages}
use Rattle.sja_command_line.proofs.laws.arbitrate_and_texts_parse.Goals as goal

pub returns-clause-texts : goal.returns-clause-texts
returns-clause-texts c = some_messages

pub returns-clause-none : goal.returns-clause-none
returns-clause-none c = no_messages

pub returns-clause-more : goal.returns-clause-more
returns-clause-more c = more_messages
