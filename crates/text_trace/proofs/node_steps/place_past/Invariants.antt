use Rattle.std.proofs.Common.{◌-◌, length}
use Rattle.text_trace.specs.Inside.StepOrder.{ArePast}
use Rattle.text_trace.proofs.node_steps.place_past.Given as goal

-- if those before the place that it began with are past, those before this one are
abbrev pub invariant-loop-place : goal.invariant-loop-place
invariant-loop-place l = ArePast l.bits l.from l.done → ArePast l.bits l.place l.done

abbrev pub decreases-loop-place : goal.decreases-loop-place
decreases-loop-place l = length l.done - l.place
