-- Whether a node is at rest at the end of its record (this project's own rule).
use Rattle.std.specs.Prelude.{◌≡◌, Bool, List}
use Rattle.can_node_rules.specs.NextBit.{is_at_rest}
use Rattle.sja_journal.specs.NodeWords.{NodeEntry, FinishedPiece, IsCut}

-- at the end of the record the node is at rest, which is in reset or idle with no request, or it isn't. There is a cut
-- that says so, and every cut does
pub record RestsAs (entries : List NodeEntry) (rests : Bool) : Type 0 where
  pub found : List FinishedPiece
  pub cut : IsCut entries found
  pub is : is_at_rest cut ≡ rests
  pub every : (others : List FinishedPiece) (another : IsCut entries others) → is_at_rest another ≡ rests
