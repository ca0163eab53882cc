use Rattle.std.proofs.Common.{rules}
use Rattle.sja_program.proofs.PlanAnswers.Places.{plan_explained}
use Rattle.sja_program.proofs.mistaken.mistaken.Goals as goal

-- the fault isn't that memory was refused
pub returns-in-Plan : goal.returns-in-Plan
returns-in-Plan c =
    rw c.in-Plan.is (plan_explained (λ t. t.items) _ c.in-Plan.fault (search rules) c.explained.ensures)
