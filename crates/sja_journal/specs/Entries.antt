-- What bus-off leaves in the record of a node (this project's own rule).
use Rattle.std.specs.Prelude.{Bool, if◌then◌else◌, List, [], ◌∷◌}
use Rattle.sja_journal.specs.NodeWords.{NodeEntry, NodeWentOff}

-- the entry of bus-off in the record of the node, or none
abbrev pub off_left : Bool → List NodeEntry
off_left went = if went then NodeWentOff ∷ [] else []
