use Rattle.std.proofs.Common.{◌≡◌, ◌++◌, drop, string_bytes}
use Rattle.text_report.specs.ReportLines.{numbered}
use Rattle.text_picture.specs.Drawing.{shown_rows}
use Rattle.text_picture.proofs.all_rows.put_all.Given as goal

-- what was written, and the rows of the rest, are the whole
abbrev pub invariant-loop-row : goal.invariant-loop-row
invariant-loop-row l = record {
  text : string_bytes l.text ++ numbered shown_rows l.number (drop l.row-index l.rows)
      ≡ string_bytes l.fn.text ++ numbered shown_rows 0 l.rows;
  number : l.number ≡ l.row-index;
}
