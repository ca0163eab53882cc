use Rattle.sja_plan_text.proofs.Documents.Alike.{text_or_too_long}
use Rattle.sja_plan_text.proofs.laws.a_plan_with_a_text_is_not_too_long.Goals as goal

pub returns : goal.returns
returns c = text_or_too_long
