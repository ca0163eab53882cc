use Rattle.lemmas.proofs.ChangedInTurn.{Part}
use Rattle.text_candump.specs.Inside.CandumpProgress.{RestsBy}
use Rattle.text_candump.proofs.all_bits.rest_all.Given as goal

-- so many went on
abbrev pub invariant-loop-k : goal.invariant-loop-k
invariant-loop-k l = Part (RestsBy l.count) l.k l.initial.all l.all
