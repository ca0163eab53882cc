use Rattle.sja_sweep.specs.SweepText.{row_line}
use Rattle.sja_sweep.specs.Inside.Reaching.{outcome_value}
use Rattle.sja_sweep.proofs.NumberLists.Texts.{seen_text}
use Rattle.sja_sweep.proofs.spans.put_rows.Goals as goal

pub loop-told-preserved : goal.loop-told-preserved
loop-told-preserved c =
    seen_text row_line outcome_value c.args.tolds.now c.loop-told.told-index c.told-item.result _ _ _
    c.loop-told-test.true c.told-item.is c.loop-told.invariant c.in_ok-put_row.ensures
