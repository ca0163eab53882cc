use Rattle.std.proofs.Common.{option_map, subst}
use Rattle.sja_run.specs.Difference.{IsCompared}
use Rattle.sja_run.proofs.expected.compared.Goals as goal

-- what is said is said of the report of a run of the plan that the bytes are
pub returns-clause-ok : goal.returns-clause-ok
returns-clause-ok g c = (
  c.in_ok-plan.plan,
  c.in_ok-text.text.items,
  c.in_ok-plan.ensures.ok,
  c.in_ok-text.ensures.ok,
  subst (λ text. IsCompared c.in_ok-plan.plan text c.args.report.now
      (option_map (λ v. v.items) c.in_ok-said.said)) c.as_slice.ensures.value c.in_ok-said.ensures,
)
