use Rattle.std.proofs.Common.{◌+◌, map, drop, string_bytes, ap, ◌∙◌}
use Rattle.sja_sweep.specs.Spans.{spans}
use Rattle.sja_sweep.specs.SweepText.{shown_line}
use Rattle.sja_sweep.specs.Inside.Reaching.{outcome_value, span_value}
use Rattle.sja_sweep.proofs.TriedStrikes.SpanLemmas.{told_next, step_joined, step_apart}
use Rattle.sja_sweep.proofs.spans.put_spans.Goals as goal
use Rattle.sja_sweep.proofs.spans.put_spans.Goals.{then-goes_on, else-goes_on+in_ok-put_shown}

pub loop-told-preserved : goal.loop-told-preserved
loop-told-preserved c =
    let i = c.loop-told.told-index in
    let rest = c.in-Some.rest.now in
    let o = span_value c.loop-told.open in
    let n = span_value c.of-next.result in
    let ss = spans (map outcome_value (drop (i + 1) rest)) in
    let first = told_next rest i c.told-item.result n c.loop-told-test.true c.told-item.is c.of-next.ensures in
    elim c.if-goes_on.branch [
      | then-goes_on w ↦
          step_joined (shown_line c.args.asked) (string_bytes c.loop-told.text) (string_bytes c.if-goes_on.text) _
          o n (span_value c.if-goes_on.open) ss (spans (map outcome_value (drop i rest))) c.goes_on.result
          w.if-goes_on.true c.goes_on.ensures (ap span_value w.open-is ∙ w.joined-open.ensures)
          (ap string_bytes w.text-is) first c.loop-told.invariant
      | else-goes_on+in_ok-put_shown w ↦
          step_apart (shown_line c.args.asked) (string_bytes c.loop-told.text) (string_bytes c.if-goes_on.text) _
          o n (span_value c.if-goes_on.open) ss (spans (map outcome_value (drop i rest))) c.goes_on.result
          w.if-goes_on.false c.goes_on.ensures (ap span_value w.open-is)
          (ap string_bytes w.text-is ∙ w.in_ok-put_shown.ensures) first c.loop-told.invariant
    ]
