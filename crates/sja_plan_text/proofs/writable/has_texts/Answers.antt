use Rattle.std.proofs.Common.{rules, ◌<◌, ◌≤◌, IsTrue, All, List, [], length, arith}
use Rattle.std.proofs.lemmas.List.Elements.{All-more}
use Rattle.sja_steps.specs.declared.step.Step.{Step}
use Rattle.sja_plan.specs.Limits.{most_steps}
use Rattle.sja_plan_text.specs.HasTexts.{HasStepText}
use Rattle.sja_plan_text.proofs.Tables.Lists.{all_taken}
use Rattle.sja_plan_text.proofs.writable.has_texts.Goals as goal

pub loop-node-preserved : goal.loop-node-preserved
loop-node-preserved c =
    let plan = c.args.plan.now in
    let said : IsTrue c.steps_have_texts.result = search rules in
    let here = rw (c.version.ensures.value, c.steps.ensures.value) at (c.steps_have_texts.ensures.0 said) in
    let within : c.loop-node.node < length plan.nodes =
    omega (arith, c.loop-node-test.true, c.nodes-node-end.ensures.value) in
    record {
      few = All-more (λ (steps : List Step). length steps ≤ most_steps plan.version) plan.nodes
          c.loop-node.node [] within c.loop-node.invariant.few here.0;
      texts = All-more (λ (steps : List Step). All (HasStepText plan.version) steps) plan.nodes
          c.loop-node.node [] within c.loop-node.invariant.texts here.1;
    }

pub returns-then-turns_have_texts : goal.returns-then-turns_have_texts
returns-then-turns_have_texts c =
    let plan = c.args.plan.now in
    let past : length plan.nodes ≤ c.loop-node.node =
    omega (arith, c.loop-node-test.false, c.nodes-node-end.ensures.value) in
    let turned : IsTrue c.turns_have_texts.result = search rules in (
      λ struck. record {
        step_counts = all_taken (λ (steps : List Step). length steps ≤ most_steps plan.version) plan.nodes
            c.loop-node.node past c.loop-node.invariant.few;
        steps = all_taken (λ (steps : List Step). All (HasStepText plan.version) steps) plan.nodes c.loop-node.node past
            c.loop-node.invariant.texts;
        turns = rw (c.version-2.ensures.value, c.turns.ensures.value) at (c.turns_have_texts.ensures.0 turned);
        strikes = rw c.strikes.ensures.value at (c.strikes_have_texts.ensures.0 struck);
      },
      λ has. c.strikes_have_texts.ensures.1 (rw c.strikes.ensures.value has.strikes),
    )
