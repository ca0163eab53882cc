-- The record of a node in its journal (this project's own rule).
use Rattle.std.specs.Prelude.{Bool, if◌then◌else◌, List, [], ◌∷◌}
use Rattle.sja_journal.specs.NodeWords.{NodeEntry, NodeStarted, NodeStopped, NodeTook, NodeAsked, NodeAborted}
use Rattle.sja_journal.specs.NodeWords.{NodeWentOff}
use Rattle.sja_journal.specs.declared.up.Up.TheVariants.{Start, Credit, Send, Stop}
use Rattle.sja_journal.specs.declared.entry.Entry.{Entry}
use Rattle.sja_journal.specs.declared.entry.Entry.TheVariants.{Bit, Up as Item, Abort, Stored, Overrun, Off}
use Rattle.lemmas.specs.Gathering.{gathered}
use Rattle.sja_journal.specs.Places.{Placed, placed}

-- what the node is told by an entry: of no credit and no verdict, and of no request of an activation that went bus-off
abbrev pub told : Bool → Entry → List NodeEntry
told off (Bit driven seen) = NodeTook (record { driven = driven; seen = seen }) ∷ []
told off (Item (Start config)) = NodeStarted config ∷ []
told off (Item (Credit n)) = []
told off (Item (Send request)) = if off then [] else NodeAsked request ∷ []
told off (Item Stop) = NodeStopped ∷ []
told off Abort = NodeAborted ∷ []
told off (Stored m) = []
told off (Overrun m) = []
told off Off = NodeWentOff ∷ []

abbrev pub told_at : Placed → List NodeEntry
told_at q = told q.before.off q.entry

-- the node's record in a journal
abbrev pub record_of : List Entry → List NodeEntry
record_of j = gathered told_at (placed j)
