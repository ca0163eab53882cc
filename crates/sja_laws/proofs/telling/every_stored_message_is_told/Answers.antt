use Rattle.sja_laws.proofs.RunsTold.AllRuns.{stores_told}
use Rattle.sja_laws.proofs.telling.every_stored_message_is_told.Goals as goal

pub returns : goal.returns
returns c = stores_told
