use Rattle.std.proofs.Common.{◌-◌, ◌≤◌}
use Rattle.text_picture.specs.Pages.{IsDrawn}
use Rattle.text_picture.specs.Knowing.{Knows}
use Rattle.text_picture.proofs.picture_text.drawn.Given as goal

-- the bits so far were drawn
abbrev pub invariant-loop-bit : goal.invariant-loop-bit
invariant-loop-bit l = record {
  within : l.bit ≤ l.span.end;
  drawn : Knows l.log.nodes l.bit l.node_traces (IsDrawn l.span l.bit l.page l.rows);
}

abbrev pub decreases-loop-bit : goal.decreases-loop-bit
decreases-loop-bit l = l.span.end - l.bit
