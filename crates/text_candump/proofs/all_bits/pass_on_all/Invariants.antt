use Rattle.lemmas.proofs.ChangedInTurn.{Part}
use Rattle.text_candump.specs.Inside.CandumpProgress.{GoesOn}
use Rattle.text_candump.proofs.all_bits.pass_on_all.Given as goal

-- so many went on
abbrev pub invariant-loop-k : goal.invariant-loop-k
invariant-loop-k l = Part GoesOn l.k l.initial.all l.all
