-- What the bus knows of a node and its journal.
use Rattle.std.specs.Prelude.{◌≡◌, ◌+◌, ℕ, suc, Bool, true, false, Some, List, [], ◌∷◌, ◌++◌}
use Rattle.can_node.specs.declared.node.Node.{Node}
use Rattle.can_node.specs.Stands.{StandsAt, InReset}
use Rattle.sja_journal.specs.NodeWords.{NodeEntry, NodeStarted, NodeStopped, NodeTook, NodeAsked}
use Rattle.sja_journal.specs.NodeWords.{NodeAborted, NodeWentOff, FinishedPiece, received}
use Rattle.sja_journal.specs.declared.entry.Entry.{Entry}
use Rattle.sja_journal.specs.Places.{place_of}
use Rattle.sja_journal.specs.Parts.{part}
use Rattle.sja_journal.specs.Records.{record_of}
use Rattle.sja_journal.specs.Free.{IsFree}
use Rattle.lemmas.specs.Gathering.{total}
use Rattle.sja_journal.specs.Carried.{taken_of}
use Rattle.sja_link.specs.World.{is_stop}
use Rattle.sja_journal.specs.Verdicts.{filter_of, HasVerdicts}
use Rattle.sja_journal.specs.Links.{stops_of}
use Rattle.sja_journal.specs.Entries.{off_left}
use Rattle.sja_journal.specs.OutOfOrder.{HasOff, HasAskedOff}
use Rattle.sja_link.specs.Orderly.{AreOrderly}
use Rattle.sja_bus.specs.declared.activity.Activity.{Activity}
use Rattle.sja_bus.specs.declared.activity.Activity.TheVariants.{Between, Running, Off, OffAndAsked}

-- the node stands at the record in its journal, and the verdicts are right by its cut
pub record Follows (node : Node) (j : List Entry) : Type 0 where
  pub found : List FinishedPiece
  pub stands : StandsAt node (record_of j) found
  pub verdicts : HasVerdicts j (received found)

-- the same after a bit, before bus-off is entered
pub record FollowsBit (node : Node) (j : List Entry) (went : Bool) : Type 0 where
  pub found : List FinishedPiece
  pub stands : StandsAt node (record_of j ++ off_left went) found
  pub verdicts : HasVerdicts j (received found)

-- how many of the activations begun haven't ended
abbrev pub open_in : Activity → ℕ
open_in Between = 0
open_in (Running filter) = 1
open_in Off = 1
open_in OffAndAsked = 1

-- whether a node is on the bus after such an entry, and after several: the last start, stop or bus-off is a start
abbrev pub on_after : Bool → NodeEntry → Bool
on_after on (NodeStarted config) = true
on_after on NodeStopped = false
on_after on NodeWentOff = false
on_after on (NodeTook b) = on
on_after on (NodeAsked request) = on
on_after on NodeAborted = on

abbrev pub is_on : Bool → List NodeEntry → Bool
is_on on [] = on
is_on on (e ∷ entries) = is_on (on_after on e) entries

-- what the bus knows of the activation that it reads
abbrev pub IsActive : Activity → Node → List Entry → ℕ → Type 0
IsActive Between node j a = InReset node
IsActive (Running filter) node j a = ((place_of j).off ≡ false) × (filter_of (part j a) ≡ Some filter)
    × (is_on false (record_of j) ≡ true) × (HasOff (part j a) → ⊥)
IsActive Off node j a =
    ((place_of j).off ≡ true) × InReset node × HasOff (part j a) × (HasAskedOff (part j a) → ⊥)
IsActive OffAndAsked node j a = ((place_of j).off ≡ true) × InReset node × HasAskedOff (part j a)

-- so many activations have ended; the next one is read, and of it so many bytes are free; what was entered is in order
pub record Reads (node : Node) (j : List Entry) (ended : ℕ) (activity : Activity) (free : ℕ) : Type 0 where
  pub begun : (place_of j).activation ≡ ended + open_in activity
  pub stopped : stops_of j ≡ ended
  pub free_is : IsFree (part j (suc ended)) free
  pub stopless : total is_stop (taken_of (part j (suc ended))) ≡ 0
  pub orderly : AreOrderly j
  pub active : IsActive activity node j (suc ended)
