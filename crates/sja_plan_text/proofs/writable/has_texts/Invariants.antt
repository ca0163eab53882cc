use Rattle.std.proofs.Common.{◌≤◌, All, length, take}
use Rattle.sja_plan.specs.Limits.{most_steps}
use Rattle.sja_plan_text.specs.HasTexts.{HasStepText}
use Rattle.sja_plan_text.proofs.writable.has_texts.Given as goal

-- the nodes so far have few steps, and texts
abbrev pub invariant-loop-node : goal.invariant-loop-node
invariant-loop-node l = record {
  few : All (λ steps. length steps ≤ most_steps l.plan.version) (take l.node l.plan.nodes);
  texts : All (λ steps. All (HasStepText l.plan.version) steps) (take l.node l.plan.nodes);
}
