-- Where a node is in a frame (this project's own rule).
use Rattle.std.specs.Prelude.{Option, List}
use Rattle.can_node_rules.specs.declared.node_place.NodePlace.{NodePlace}
use Rattle.can_node.specs.NextPlace.{PlaceIn}
use Rattle.sja_journal.specs.NodeWords.{NodeEntry, FinishedPiece, IsCut}

-- at the end of the record the node's next bit is at this place of a frame, or at none. There is a cut that says so,
-- and every cut does
pub record HasPlace (entries : List NodeEntry) (shown : Option NodePlace) : Type 0 where
  pub found : List FinishedPiece
  pub cut : IsCut entries found
  pub is : PlaceIn cut shown
  pub every : (others : List FinishedPiece) (another : IsCut entries others) → PlaceIn another shown
