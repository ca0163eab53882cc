use Rattle.sja_placed_strikes.proofs.Texts.{run_has_texts}
use Rattle.sja_placed_strikes.proofs.laws.a_run_plan_has_texts.Goals as goal

pub returns : goal.returns
returns c = run_has_texts
