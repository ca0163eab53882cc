use Rattle.sja_laws.proofs.RunsTold.StoredRuns.{stores_have_lines}
use Rattle.sja_laws.proofs.telling.every_stored_message_has_its_line.Goals as goal

pub returns : goal.returns
returns c = stores_have_lines
