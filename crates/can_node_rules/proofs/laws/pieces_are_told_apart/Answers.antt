use Rattle.can_node_rules.proofs.OneCut.RowOnce.{row_once}
use Rattle.can_node_rules.proofs.laws.pieces_are_told_apart.Goals as goal

pub returns : goal.returns
returns c = row_once
