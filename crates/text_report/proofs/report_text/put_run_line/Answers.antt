use Rattle.std.proofs.Common.{append_assoc, append-nil}
use Rattle.text_report.proofs.report_text.put_run_line.Goals as goal

pub returns : goal.returns
returns c = simp (append_assoc, append-nil) at (rw c.in_ok-write.ensures.bytes at c.in_ok-writeln.ensures.bytes)
