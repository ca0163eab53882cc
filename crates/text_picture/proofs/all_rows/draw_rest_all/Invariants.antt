use Rattle.text_picture.specs.Inside.PictureRest.{Rests}
use Rattle.text_picture.proofs.NodeRows.Beside.{Beside}
use Rattle.text_picture.proofs.all_rows.draw_rest_all.Given as goal

-- so many have the bits
abbrev pub invariant-loop-k : goal.invariant-loop-k
invariant-loop-k l = Beside (Rests l.count) l.k l.node_traces l.initial.rows l.rows
