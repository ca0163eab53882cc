-- Where a node stands at the end of its record (this project's own rule).
use Rattle.std.specs.Prelude.{◌≡◌, true, false, List}
use Rattle.can_node_rules.specs.Context.{is_held}
use Rattle.can_node_rules.specs.NextBit.{now_in, is_at_rest}
use Rattle.sja_journal.specs.NodeWords.{NodeEntry, FinishedPiece, IsCut}

-- it holds a request
abbrev pub IsHolding : List NodeEntry → Type 0
IsHolding entries = (found : List FinishedPiece) × (cut : IsCut entries found) × (is_held (now_in cut).held ≡ true)

-- it is in reset, or idle with no request
abbrev pub IsAtRest : List NodeEntry → Type 0
IsAtRest entries = (found : List FinishedPiece) × (cut : IsCut entries found) × (is_at_rest cut ≡ true)

-- it is started, and not at rest
abbrev pub IsWorking : List NodeEntry → Type 0
IsWorking entries = (found : List FinishedPiece) × (cut : IsCut entries found) × (is_at_rest cut ≡ false)
