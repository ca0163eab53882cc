use Rattle.std.proofs.Common.{◌≡◌, ◌++◌, string_bytes}
use Rattle.text_trace.specs.Inside.Reading.{HearsOne, other_line}
use Rattle.lemmas.proofs.ChangedInTurn.{Part}
use Rattle.text_trace.proofs.SoFar.InTurn.{lines_to}
use Rattle.text_trace.proofs.frame_bits.hear_all.Given as goal

-- so many went on, and the lines of the others among them were written
abbrev pub invariant-loop-k : goal.invariant-loop-k
invariant-loop-k l = record {
  hears : Part HearsOne l.k l.fn.node_traces l.node_traces;
  text : string_bytes l.text
      ≡ string_bytes l.fn.text ++ lines_to (other_line l.bus l.bit) 0 l.k l.node_traces;
}
