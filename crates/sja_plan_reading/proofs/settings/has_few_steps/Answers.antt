use Rattle.std.proofs.Common.{rules, ◌<◌, ◌≤◌, ◌≡◌, ◌∙◌, List, length, map, All, refl, sym, ap, subst, arith}
use Rattle.std.proofs.lemmas.List.{take_all}
use Rattle.sja_plan_reading.specs.Words.{Text}
use Rattle.sja_plan.specs.Limits.{most_steps}
use Rattle.sja_plan_reading.specs.Checks.{version_of}
use Rattle.sja_plan_reading.specs.Inside.Views.{document_view}
use Rattle.sja_plan_reading.proofs.Parts.Nodes.{node_texts, all_few, not_few}
use Rattle.sja_plan_reading.proofs.settings.has_few_steps.Goals as goal

pub returns-then-len-most_steps : goal.returns-then-len-most_steps
returns-then-len-most_steps c =
    let items = c.as_slice-steps-items.ensures.value in
    let is = rw items at c.steps-item.is in
    let within = rw items at c.loop-steps-test.true in
    let most = ap most_steps c.requires in
    let len : c.len.result ≡ length c.steps-item.result.items = search rules in
    let many : most_steps (version_of (document_view c.args.document.now)) < length c.steps-item.result.items =
    omega (arith, len, most) in (
      λ e. cc e,
      λ all.
          absurd
          (not_few _ c.args.document.now.nodes.items c.loop-steps.steps-index c.steps-item.result within is many all),
    )

pub returns : goal.returns
returns c =
    let items = c.as_slice-steps-items.ensures.value in
    let whole = take_all c.loop-steps.steps-index c.as_slice-steps-items.result.now
    (omega (arith, c.loop-steps-test.false)) ∙ items in
    let all = rw whole at c.loop-steps.invariant in
    let few = all_few (most_steps c.args.version) c.args.document.now.nodes.items all in (
      λ e.
          subst (λ v. All (λ (steps : List Text). length steps ≤ most_steps v) (map node_texts
          c.args.document.now.nodes.items)) (sym c.requires) few,
      λ h. refl,
    )
