use Rattle.std.specs.Prelude.{codes, decimal, ◌++◌}
use Rattle.text_report.specs.ReportWords.{answer_words}
use Rattle.text_report.proofs.WrittenLines.Texts.{line_whole}
use Rattle.text_report.proofs.lines.put_step.Goals as goal

pub returns : goal.returns
unfolding lib.Utf8.encode
returns c =
    line_whole _ _ _ _ (codes "step " ++ decimal c.args.number) (answer_words c.args.done.now.answer)
    c.in_ok-write.ensures.bytes c.in_ok-put_answer.ensures c.in_ok-push.ensures.bytes
