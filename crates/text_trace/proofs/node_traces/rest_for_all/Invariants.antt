use Rattle.std.proofs.Common.{◌<◌, ◌≤◌, ℕ}
use Rattle.std.specs.Prelude.{slice_index_or}
use Rattle.text_trace.specs.declared.node_trace.NodeTrace.{NodeTrace}
use Rattle.text_trace.specs.TraceRest.{NodeTraceRests}
use Rattle.text_trace.proofs.node_traces.rest_for_all.Given as goal

-- those so far rest for so many bits
abbrev pub invariant-loop-node_trace : goal.invariant-loop-node_trace
invariant-loop-node_trace l = record {
  most : l.count ≤ l.most;
  rests : 0 < l.count → (k : ℕ) (t : NodeTrace) → k < l.node_trace-index →
      NodeTraceRests l.bit l.count (slice_index_or l.node_traces k t);
}
