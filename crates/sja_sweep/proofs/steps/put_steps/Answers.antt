use Rattle.std.proofs.Common.{◌++◌, string_bytes, ap, ap₂, ◌∙◌, Option}
use Rattle.std.specs.Prelude.{slice_get}
use Rattle.std.specs.Option.{option_copied}
use Rattle.sja_steps.specs.declared.step_record.StepRecord.{StepRecord}
use Rattle.sja_steps.specs.declared.step.Step.{Step}
use Rattle.sja_sweep.specs.Steps.{step_item}
use Rattle.sja_sweep.proofs.NumberLists.Ranges.{text_more}
use Rattle.sja_sweep.proofs.steps.put_steps.Goals as goal

pub loop-place-preserved : goal.loop-place-preserved
loop-place-preserved c =
    let i = c.loop-place.place in
    text_more (λ n. step_item (slice_get c.args.script.now n) c.args.node n (slice_get c.args.without.now n)
    (slice_get c.args.now.now n)) i _ _ _ c.loop-place.invariant
    (c.in_ok-put_step.ensures
    ∙ ap (λ (s : Option Step). string_bytes c.loop-place.text ++ step_item s c.args.node i
    (option_copied c.done_at-before.result) (option_copied c.done_at-after.result)) c.step_at-out.ensures
    ∙ ap₂ (λ (a b : Option StepRecord). string_bytes c.loop-place.text
    ++ step_item (slice_get c.args.script.now i) c.args.node i a b)
    c.done_at-before.ensures c.done_at-after.ensures)
