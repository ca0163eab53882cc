use Rattle.std.proofs.Common.{◌≡◌, ◌+◌, ◌-◌, ◌++◌, length, drop, string_bytes}
use Rattle.text_trace.specs.TraceText.{steps_due}
use Rattle.text_trace.proofs.steps.put_steps.Given as goal

-- what was written, and the lines of the rest, are the whole
abbrev pub invariant-loop-place : goal.invariant-loop-place
invariant-loop-place l =
    string_bytes l.text ++ steps_due l.due.late l.due.bit l.node (l.place + 1) (drop l.place l.steps)
    (drop l.place l.done)
    ≡ string_bytes l.fn.text ++ steps_due l.due.late l.due.bit l.node 1 l.steps l.done

abbrev pub decreases-loop-place : goal.decreases-loop-place
decreases-loop-place l = length l.steps - l.place
