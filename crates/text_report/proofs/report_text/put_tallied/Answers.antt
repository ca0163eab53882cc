use Rattle.std.proofs.Common.{arith, map, ap, ◌∙◌, ◌+◌, ◌++◌, string_bytes}
use Rattle.text_report.specs.ReportLines.{lines_text}
use Rattle.text_report.specs.Inside.Tallies.{tally_value, activation_lines_of, tallied_lines}
use Rattle.text_report.proofs.WrittenLines.Texts.{numbered_more}
use Rattle.text_report.proofs.report_text.put_tallied.Goals as goal

pub loop-activation-preserved : goal.loop-activation-preserved
loop-activation-preserved c = record {
  text = numbered_more (tallied_lines (map tally_value c.args.tallies.now)) c.args.activations.now
      c.loop-activation.activation-index (c.loop-activation.number + 1) c.activation-item.result _ _ _
      c.loop-activation-test.true c.activation-item.is
      (c.in_ok-put_activation.ensures
      ∙ ap (λ v. string_bytes c.loop-activation.text
      ++ lines_text (activation_lines_of v (c.loop-activation.number + 1) c.activation-item.result)) c.tally_at.ensures)
      c.loop-activation.invariant.text;
  number = let n = c.loop-activation.invariant.number in omega (arith, n);
}
