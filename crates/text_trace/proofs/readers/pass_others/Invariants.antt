use Rattle.std.proofs.Common.{◌≡◌}
use Rattle.text_trace.specs.Inside.Reading.{OtherPasses, other_driven}
use Rattle.lemmas.proofs.ChangedInTurn.{Part}
use Rattle.text_trace.proofs.SoFar.InTurn.{level_to}
use Rattle.text_trace.proofs.readers.pass_others.Given as goal

-- so many went on, and drive this together
abbrev pub invariant-loop-k : goal.invariant-loop-k
invariant-loop-k l = record {
  passes : Part OtherPasses l.k l.initial.node_traces l.node_traces;
  bus : l.bus ≡ level_to other_driven l.k l.node_traces;
}
