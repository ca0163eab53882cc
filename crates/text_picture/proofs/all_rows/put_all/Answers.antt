use Rattle.std.proofs.Common.{arith}
use Rattle.text_report.proofs.WrittenLines.Written.{numbered_next, numbered_end}
use Rattle.text_picture.specs.Drawing.{shown_rows}
use Rattle.text_picture.proofs.all_rows.put_all.Goals as goal

pub loop-row-preserved : goal.loop-row-preserved
loop-row-preserved c = record {
  text = numbered_next shown_rows c.args.rows.now c.loop-row.row-index c.loop-row.number c.row-item.result _ _ _
      c.loop-row-test.true c.row-item.is c.in_ok-put.ensures c.loop-row.invariant.text;
  number = let n = c.loop-row.invariant.number in omega (arith, n);
}

pub returns : goal.returns
returns c =
    numbered_end shown_rows c.args.rows.now c.loop-row.row-index c.loop-row.number _ _ c.loop-row-test.false
    c.loop-row.invariant.text
