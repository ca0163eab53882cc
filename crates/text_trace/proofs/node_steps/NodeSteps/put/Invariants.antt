use Rattle.std.proofs.Common.{◌≡◌, ◌+◌, ◌-◌, ◌++◌, false, length, drop, string_bytes}
use Rattle.text_trace.specs.TraceText.{steps_due}
use Rattle.text_trace.proofs.node_steps.NodeSteps.put.Given as goal

-- what was written, and the lines of the rest, are the whole
abbrev pub invariant-loop-place : goal.invariant-loop-place
invariant-loop-place l =
    string_bytes l.text ++ steps_due false l.bit l.node (l.place + 1) (drop l.place l.self.steps.now)
    (drop l.place l.self.done.now)
    ≡ string_bytes l.fn.text ++ steps_due false l.bit l.node 1 l.self.steps.now l.self.done.now

abbrev pub decreases-loop-place : goal.decreases-loop-place
decreases-loop-place l = length l.self.steps.now - l.place
