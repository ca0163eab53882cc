use Rattle.sja_plan_text.proofs.Documents.ReadPlans.{read_has_texts}
use Rattle.sja_plan_text.proofs.laws.a_plan_has_texts.Goals as goal

pub returns : goal.returns
returns c = read_has_texts
