use Rattle.text_trace.specs.TraceProgress.{NodeTraceGoesOn}
use Rattle.lemmas.proofs.ChangedInTurn.{Part}
use Rattle.text_trace.proofs.node_traces.go_on_all.Given as goal

-- so many went on
abbrev pub invariant-loop-k : goal.invariant-loop-k
invariant-loop-k l = Part NodeTraceGoesOn l.k l.initial.node_traces l.node_traces
