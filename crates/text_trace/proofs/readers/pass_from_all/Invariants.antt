use Rattle.text_trace.specs.Inside.Reading.{PassesFrom}
use Rattle.lemmas.proofs.ChangedInTurn.{Part}
use Rattle.text_trace.proofs.readers.pass_from_all.Given as goal

-- so many went on
abbrev pub invariant-loop-k : goal.invariant-loop-k
invariant-loop-k l = Part (PassesFrom l.reader) l.k l.initial.node_traces l.node_traces
