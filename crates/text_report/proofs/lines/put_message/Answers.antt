use Rattle.text_report.specs.ReportWords.{message_words}
use Rattle.text_report.proofs.WrittenLines.Texts.{line_whole}
use Rattle.text_report.proofs.lines.put_message.Goals as goal

pub returns : goal.returns
unfolding lib.Utf8.encode
returns c =
    line_whole _ _ _ _ c.args.word.now (message_words c.args.message.now)
    c.in_ok-push_str.ensures.bytes c.in_ok-put_bytes.ensures c.in_ok-push.ensures.bytes
