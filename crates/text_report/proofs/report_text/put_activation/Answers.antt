use Rattle.std.specs.Prelude.{length, codes}
use Rattle.text_report.specs.ReportLines.{counts_line, message_lines}
use Rattle.text_report.specs.Inside.Tallies.{tally_value, free_by}
use Rattle.text_report.proofs.WrittenLines.Texts.{activation_text}
use Rattle.text_report.proofs.report_text.put_activation.Goals as goal

pub returns : goal.returns
returns c =
    activation_text _ _ _ _ _
    (counts_line c.args.number c.args.tally.now.stored (length c.args.tally.now.overrun.items)
    (free_by (tally_value c.args.tally.now)))
    (message_lines (codes "released") c.args.activation.now.released)
    (message_lines (codes "unread") c.args.activation.now.unread)
    (message_lines (codes "overrun") c.args.tally.now.overrun.items)
    (rw (c.len.ensures, c.args.tally.now.overrun.ok.0, c.free.ensures) at c.in_ok-put_counts_line.ensures)
    (rw c.released.ensures at c.in_ok-put_messages.ensures)
    (rw c.unread.ensures at c.in_ok-put_messages-2.ensures)
    (rw c.as_slice.ensures.value at c.in_ok-put_messages-3.ensures)
