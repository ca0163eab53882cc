use Rattle.std.proofs.Common.{arith}
use Rattle.text_report.proofs.WrittenLines.Written.{numbered_next, numbered_end}
use Rattle.text_svg.specs.Inside.Drawing.{shown_lane}
use Rattle.text_svg.proofs.all_lanes.put_all.Goals as goal

pub loop-lane-preserved : goal.loop-lane-preserved
loop-lane-preserved c = record {
  text = numbered_next (shown_lane c.args.width) c.args.lanes.now c.loop-lane.lane-index c.loop-lane.number
      c.lane-item.result _ _ _ c.loop-lane-test.true c.lane-item.is c.in_ok-put.ensures c.loop-lane.invariant.text;
  number = let n = c.loop-lane.invariant.number in omega (arith, n);
}

pub returns : goal.returns
returns c =
    numbered_end (shown_lane c.args.width) c.args.lanes.now c.loop-lane.lane-index c.loop-lane.number _ _
    c.loop-lane-test.false c.loop-lane.invariant.text
