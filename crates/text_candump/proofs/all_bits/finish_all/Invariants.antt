use Rattle.lemmas.proofs.ChangedInTurn.{Part}
use Rattle.text_candump.specs.Inside.CandumpProgress.{GoesToEnd}
use Rattle.text_candump.proofs.all_bits.finish_all.Given as goal

-- so many came to their ends
abbrev pub invariant-loop-k : goal.invariant-loop-k
invariant-loop-k l = Part GoesToEnd l.k l.initial.all l.all
