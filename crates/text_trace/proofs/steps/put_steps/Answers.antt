use Rattle.std.proofs.Common.{◌+◌}
use Rattle.text_trace.proofs.SoFar.Lines.{done_end}
use Rattle.text_trace.proofs.steps.put_steps.Goals as goal

pub returns-else-place-done : goal.returns-else-place-done
returns-else-place-done c =
    done_end c.args.due.late c.args.due.bit c.args.node c.loop-place.place (c.loop-place.place + 1) c.args.steps.now
    c.args.done.now _ _ c.if-place-done.false c.loop-place.invariant
