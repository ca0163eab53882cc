use Rattle.text_trace.specs.Passing.{NodeTracePasses}
use Rattle.lemmas.proofs.ChangedInTurn.{Part}
use Rattle.text_trace.proofs.node_traces.pass_on_all.Given as goal

-- so many went on
abbrev pub invariant-loop-k : goal.invariant-loop-k
invariant-loop-k l = Part NodeTracePasses l.k l.initial.node_traces l.node_traces
