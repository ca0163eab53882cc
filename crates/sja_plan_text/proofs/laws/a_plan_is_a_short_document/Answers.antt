use Rattle.sja_plan_text.proofs.Tables.Plans.{is_plan, is_short_document}
use Rattle.sja_plan_text.proofs.laws.a_plan_is_a_short_document.Goals as goal

pub returns : goal.returns
returns c = λ bytes p. (is_short_document bytes p, λ h. is_plan bytes p h.0 h.1)
