use Rattle.text_report.proofs.WrittenLines.Written.{three_texts}
use Rattle.text_candump.proofs.frame_lines.put_error_line.Goals as goal

pub returns : goal.returns
unfolding lib.Utf8.encode
returns c =
    three_texts _ _ _ _ _ _ _ c.in_ok-put_head.ensures c.in_ok-put_error.ensures c.in_ok-push.ensures.bytes
