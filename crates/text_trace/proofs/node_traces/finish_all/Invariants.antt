use Rattle.text_trace.specs.TraceProgress.{NodeTraceEnds}
use Rattle.lemmas.proofs.ChangedInTurn.{Part}
use Rattle.text_trace.proofs.node_traces.finish_all.Given as goal

-- so many came to their ends
abbrev pub invariant-loop-k : goal.invariant-loop-k
invariant-loop-k l = Part NodeTraceEnds l.k l.initial.node_traces l.node_traces
