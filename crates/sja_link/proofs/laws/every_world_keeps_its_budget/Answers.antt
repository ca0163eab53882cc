use Rattle.sja_link.proofs.WorldSteps.WorldBudget.{budget}
use Rattle.sja_link.proofs.WorldSteps.Worlds.{reached_world}
use Rattle.sja_link.proofs.laws.every_world_keeps_its_budget.Goals as goal

pub returns : goal.returns
returns c = λ events w reached. budget w (reached_world reached)
