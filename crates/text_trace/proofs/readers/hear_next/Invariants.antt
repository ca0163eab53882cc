use Rattle.std.proofs.Common.{◌<◌, ℕ, length}
use Rattle.std.specs.Prelude.{slice_index_or}
use Rattle.text_trace.specs.declared.node_trace.NodeTrace.{NodeTrace}
use Rattle.text_trace.specs.Inside.Reading.{MayHear}
use Rattle.text_trace.proofs.readers.hear_next.Given as goal

-- so is it with those so far
abbrev pub invariant-loop-node_trace : goal.invariant-loop-node_trace
invariant-loop-node_trace l = (k : ℕ) (t : NodeTrace) → k < l.node_trace-index → k < length l.node_traces →
    MayHear l.bus l.bit (slice_index_or l.node_traces k t)
