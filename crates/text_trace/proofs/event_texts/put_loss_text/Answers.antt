use Rattle.text_report.proofs.WrittenLines.Written.{four_texts}
use Rattle.text_trace.proofs.event_texts.put_loss_text.Goals as goal

pub returns : goal.returns
returns c =
    four_texts _ _ _ _ _ _ _ _ _ c.in_ok-push_str.ensures.bytes c.in_ok-put_place.ensures
    c.in_ok-push_str-2.ensures.bytes c.in_ok-put_byte.ensures
