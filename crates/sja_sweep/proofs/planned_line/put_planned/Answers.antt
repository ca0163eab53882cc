use Rattle.text_report.proofs.WrittenLines.Written.{four_texts}
use Rattle.sja_sweep.proofs.planned_line.put_planned.Goals as goal

pub returns : goal.returns
unfolding lib.Utf8.encode
returns c =
    four_texts _ _ _ _ _ _ _ _ _ (rw (c.bits.ensures, c.end.ensures) at c.in_ok-put_beginning.ensures)
    (rw c.nodes.ensures at c.in_ok-put_short_nodes.ensures) (rw c.nodes-2.ensures at c.in_ok-put_counters.ensures)
    c.in_ok-push.ensures.bytes
