use Rattle.sja_plan_reading.proofs.BeforeKeys.{comments_change_nothing}
use Rattle.sja_plan_reading.proofs.laws.comments_before_a_plan_change_nothing.Goals as goal

pub returns : goal.returns
returns c = comments_change_nothing
