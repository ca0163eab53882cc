use Rattle.std.proofs.Common.{subst}
use Rattle.sja_link.specs.Budget.{IsBudget}
use Rattle.sja_link.proofs.WorldSteps.WorldBudget.{budget}
use Rattle.sja_link.proofs.world.World.step.Goals as goal

pub returns-clause-budget : goal.returns-clause-budget
returns-clause-budget c = subst IsBudget c.self.view_is (budget _ c.self.invariant.world)
