use Rattle.text_report.proofs.WrittenLines.Written.{two_texts}
use Rattle.text_wave.proofs.changes.put_seen_changes.Goals as goal

pub returns : goal.returns
returns c =
    two_texts _ _ _ _ _ (rw (c.is_recessive.ensures, c.is_recessive-2.ensures) at c.in_ok-put_change.ensures)
    (rw (c.is_recessive-3.ensures, c.is_recessive-4.ensures) at c.in_ok-put_change-2.ensures)
