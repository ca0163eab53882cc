use Rattle.lemmas.proofs.ChangedInTurn.{Part}
use Rattle.text_picture.specs.Drawing.{Clears}
use Rattle.text_picture.proofs.all_rows.clear_all.Given as goal

-- so many begin anew
abbrev pub invariant-loop-k : goal.invariant-loop-k
invariant-loop-k l = Part Clears l.k l.initial.rows l.rows
