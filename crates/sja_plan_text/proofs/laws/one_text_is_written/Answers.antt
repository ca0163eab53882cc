use Rattle.sja_plan_text.proofs.Documents.Alike.{one_is_written}
use Rattle.sja_plan_text.proofs.laws.one_text_is_written.Goals as goal

pub returns : goal.returns
returns c = one_is_written
