use Rattle.text_report.proofs.WrittenLines.Written.{two_texts}
use Rattle.sja_sweep.proofs.nodes.put_all.Goals as goal

pub returns : goal.returns
returns c =
    two_texts _ _ _ _ _ (rw (c.nodes.ensures, c.nodes-2.ensures) at c.in_ok-put_nodes.ensures)
    (rw (c.end.ensures, c.end-2.ensures) at c.in_ok-put_end.ensures)
