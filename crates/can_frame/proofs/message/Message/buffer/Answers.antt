use Rattle.can_frame.proofs.BufferLemmas.{begun_frame}
use Rattle.can_frame.proofs.message.Message.buffer.Goals as goal

pub returns-clause-frame : goal.returns-clause-frame
returns-clause-frame c = rw (c.copy_from_slice.ensures.after, c.as_slice-bytes.ensures.value, ← c.self.view_is)
    (begun_frame _ _ c.self.invariant)
