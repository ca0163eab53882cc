use Rattle.std.proofs.Common.{◌≡◌, ◌++◌, drop, string_bytes}
use Rattle.text_report.specs.ReportLines.{numbered}
use Rattle.text_svg.specs.Inside.Drawing.{shown_lane}
use Rattle.text_svg.proofs.all_lanes.put_all.Given as goal

-- what was written, and the rows of the rest, are the whole
abbrev pub invariant-loop-lane : goal.invariant-loop-lane
invariant-loop-lane l = record {
  text : string_bytes l.text ++ numbered (shown_lane l.width) l.number (drop l.lane-index l.lanes)
      ≡ string_bytes l.fn.text ++ numbered (shown_lane l.width) 0 l.lanes;
  number : l.number ≡ l.lane-index;
}
