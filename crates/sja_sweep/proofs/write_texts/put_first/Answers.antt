use Rattle.text_report.proofs.WrittenLines.Written.{two_texts, six_texts}
use Rattle.sja_sweep.proofs.write_texts.put_first.Goals as goal

pub returns : goal.returns
unfolding lib.Utf8.encode
returns c =
    two_texts _ _ _ _ _ (six_texts _ _ _ _ _ _ _ _ _ _ _ _ _ c.in_ok-put_count.ensures c.in_ok-put_count-2.ensures
    c.in_ok-put_count-3.ensures c.in_ok-put_count-4.ensures c.in_ok-put_count-5.ensures c.in_ok-put_count-6.ensures)
    c.in_ok-push.ensures.bytes
