use Rattle.std.proofs.Common.{refl, ◌∙◌}
use Rattle.text_trace.proofs.node_trace.NodeTrace.of.Goals as goal

pub returns : goal.returns
returns c = record {
  by_bytes_is = c.of.ensures.by_bytes;
  story_by_bytes = refl;
  steps_are = c.of.ensures.steps;
  done_are = c.of.ensures.done ∙ c.done.ensures;
  story_steps = refl;
  story_done = refl;
  come = rw c.journal.ensures at c.of-2.ensures;
  fresh = λ first. refl;
}
