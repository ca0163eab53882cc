use Rattle.std.proofs.Common.{◌≤◌, take, length}
use Rattle.std.specs.List.{AllByRecursion}
use Rattle.sja_plan.specs.Limits.{most_steps}
use Rattle.sja_plan_reading.proofs.settings.has_few_steps.Given as goal

-- the nodes so far have few steps
abbrev pub invariant-loop-steps : goal.invariant-loop-steps
invariant-loop-steps l =
    AllByRecursion (λ steps. length steps.items ≤ most_steps l.version) (take l.steps-index l.steps-items)
