use Rattle.sja_journal.proofs.Ledger.Judging.{kept_stored}
use Rattle.sja_link.proofs.laws.what_was_kept_was_stored.Goals as goal

pub returns : goal.returns
returns c = kept_stored
