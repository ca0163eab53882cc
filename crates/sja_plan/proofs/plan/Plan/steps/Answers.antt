use Rattle.std.proofs.Common.{◌≡◌, ◌<◌, ◌≤◌, ◌∙◌, List, [], length, map, ap, sym, subst, arith}
use Rattle.std.proofs.lemmas.List.{get_or-map, length-map}
use Rattle.std.proofs.lemmas.List.Elements.{All-get_or}
use Rattle.sja_steps.specs.declared.step.Step.{Step}
use Rattle.sja_plan.specs.Limits.{most_steps}
use Rattle.sja_plan.specs.Plan.{PlanValue}
use Rattle.sja_plan.proofs.PlanLimits.ByVersion.{steps_most}
use Rattle.sja_plan.proofs.plan.Plan.steps.Goals as goal

pub returns-clause-few : goal.returns-clause-few
returns-clause-few c =
    let lists = c.self.inside.nodes.items in
    let most = most_steps c.self.inside.version in
    let all : List (List Step) = map (λ steps. steps.items) lists in
    let same : length all ≡ length c.args.self.now.nodes =
    ap (λ (plan : PlanValue). length plan.nodes) c.self.view_is in
    let there : c.args.node < length lists = omega (arith, c.requires, same, length-map lists (λ steps. steps.items)) in
    let is = c.as_slice.ensures.value ∙ ap (λ steps. steps.items) c.index.ensures
    ∙ sym (get_or-map (λ steps. steps.items) lists c.args.node c.index.result.now [] there) in
    let few : length c.as_slice.result.now ≤ most = rw is
    (All-get_or (λ (steps : List Step). length steps ≤ most) all c.args.node []
    (omega (arith, c.requires, same)) c.self.invariant.0.steps) in
    subst (λ (plan : PlanValue). length c.as_slice.result.now ≤ most_steps plan.version) c.self.view_is few

pub returns-clause-most : goal.returns-clause-most
returns-clause-most c =
    let few = returns-clause-few c in let most = steps_most c.args.self.now.version in omega (arith, few, most)
