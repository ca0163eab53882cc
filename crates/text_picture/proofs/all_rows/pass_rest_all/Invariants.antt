use Rattle.lemmas.proofs.ChangedInTurn.{Part}
use Rattle.text_picture.specs.Inside.PictureRest.{PassesRest}
use Rattle.text_picture.proofs.all_rows.pass_rest_all.Given as goal

-- so many went past the bits
abbrev pub invariant-loop-k : goal.invariant-loop-k
invariant-loop-k l = Part PassesRest l.k l.initial.rows l.rows
