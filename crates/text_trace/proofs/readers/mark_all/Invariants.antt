use Rattle.text_trace.specs.Inside.Reading.{Marks}
use Rattle.lemmas.proofs.ChangedInTurn.{Part}
use Rattle.text_trace.proofs.readers.mark_all.Given as goal

-- so many went on
abbrev pub invariant-loop-k : goal.invariant-loop-k
invariant-loop-k l = Part (Marks l.reader) l.k l.initial.node_traces l.node_traces
