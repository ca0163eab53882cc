use Rattle.std.proofs.Common.{rules, ◌≤◌, length, refl, IsTrue, subst, arith}
use Rattle.std.proofs.lemmas.List.Elements.{All-more}
use Rattle.sja_plan_text.specs.HasTexts.{HasStepText}
use Rattle.sja_plan_text.proofs.Tables.Lists.{all_taken}
use Rattle.sja_plan_text.proofs.writable.steps_have_texts.Goals as goal

pub loop-step-preserved : goal.loop-step-preserved
loop-step-preserved c =
    let said : IsTrue c.has_step_text.result = search rules in
    let has = HasStepText c.args.version in
    let this = subst has c.step-item.is (c.has_step_text.ensures.0 said) in
    All-more has c.args.steps.now c.loop-step.step-index c.step-item.result
    (omega (arith, c.loop-step-test.true)) c.loop-step.invariant this

pub returns : goal.returns
returns c =
    let past : length c.args.steps.now ≤ c.loop-step.step-index = omega (arith, c.loop-step-test.false) in (
      λ _. (
        omega arith,
        all_taken (HasStepText c.args.version) c.args.steps.now c.loop-step.step-index past c.loop-step.invariant,
      ),
      λ _. refl,
    )
