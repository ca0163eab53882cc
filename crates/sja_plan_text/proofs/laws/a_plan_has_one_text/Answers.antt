use Rattle.sja_plan_text.proofs.Documents.Alike.{one_plan_text}
use Rattle.sja_plan_text.proofs.laws.a_plan_has_one_text.Goals as goal

pub returns : goal.returns
returns c = one_plan_text
