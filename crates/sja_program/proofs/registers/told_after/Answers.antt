use Rattle.std.proofs.Common.{◌<◌, rules, subst}
use Rattle.sja_plan.specs.Plan.{PlanValue}
use Rattle.sja_program.specs.Registers.{AreToldOf}
use Rattle.sja_program.proofs.registers.told_after.Goals as goal

-- the plan has the bit, and the text is that of the plan that ends after it
pub returns-clause-ok : goal.returns-clause-ok
returns-clause-ok c =
    let less : c.args.bit < c.args.plan.now.bits = search rules in
    (less, subst (λ (p : PlanValue). AreToldOf p c.in_ok-text.text.items) c.end_after.ensures c.in_ok-text.ensures)
