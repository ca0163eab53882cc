use Rattle.sja_link.proofs.Ledger.Holding.{told_stored}
use Rattle.sja_link.proofs.laws.what_was_released_and_left_was_stored.Goals as goal

pub returns : goal.returns
returns c = told_stored
