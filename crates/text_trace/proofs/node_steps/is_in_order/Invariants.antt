use Rattle.std.proofs.Common.{drop}
use Rattle.text_trace.specs.Inside.StepOrder.{Ascends}
use Rattle.text_trace.proofs.node_steps.is_in_order.Given as goal

-- if those that are left ascend, all of them do
abbrev pub invariant-loop-one : goal.invariant-loop-one
invariant-loop-one l = Ascends l.least (drop l.one-index l.done) → Ascends 0 l.done
