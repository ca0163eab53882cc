-- What a bit adds to a record and tells, what an abort comes to, and the state that counters say.
use Rattle.std.specs.Prelude.{◌≡◌, ◌||◌, Bool, true, false, nat_le}
use Rattle.std.specs.Prelude.{if◌then◌else◌, Option, Some, None, List, [], ◌∷◌}
use Rattle.can_node_rules.specs.declared.request.Request.{Request}
use Rattle.can_node_rules.specs.declared.abort_outcome.AbortOutcome.{AbortOutcome}
use Rattle.can_node_rules.specs.declared.abort_outcome.AbortOutcome.TheVariants.{Unchanged, Marked, Dropped}
use Rattle.can_node_rules.specs.declared.counters.Counters.{Counters}
use Rattle.can_node_rules.specs.declared.state.State.{State}
use Rattle.can_node_rules.specs.declared.state.State.TheVariants.{Active, Passive, BusOff}
use Rattle.can_node_rules.specs.declared.bit_events.BitEvents.{BitEvents}
use Rattle.can_node_rules.specs.Bits.{Bit}
use Rattle.can_node_rules.specs.Record.{RecordEntry}
use Rattle.can_node_rules.specs.Record.RecordEntry.{OneBit, BusOff}
use Rattle.can_node_rules.specs.Cut.{FinishedPiece, IsCut, Count, tagged}
use Rattle.can_node_rules.specs.Events.{Step}
use Rattle.can_node_rules.specs.Events.Step.{Within, Finishes}

-- the entries that a bit adds: its own, and that of bus-off
abbrev pub entries_of : Bit → BitEvents → List RecordEntry
entries_of b e = if e.went_off then OneBit b ∷ BusOff ∷ [] else OneBit b ∷ []

-- the piece that a bit finished, with its activation and the number of bits up to its end
abbrev pub closed_by : Count → Step → List FinishedPiece
closed_by k Within = []
closed_by k (Finishes piece next) = tagged k (piece ∷ [])

-- what a bit tells in which nothing happened, to a receiver or not
abbrev pub nothing : Bool → BitEvents
nothing receiving = record {
  received = None;
  ended = None;
  lost = None;
  fault = None;
  receiving = receiving;
  went_off = false;
  recovered = false;
}

-- two cuts of a record are one: the same finished pieces, context and place, and the same entries of a piece that isn't
-- finished
abbrev pub HasOneCut : List RecordEntry → Type 0
HasOneCut entries =
    (found others : List FinishedPiece) (h : IsCut entries found) (k : IsCut entries others) →
    (found ≡ others) × (h.context ≡ k.context) × (h.place ≡ k.place) × (h.rest ≡ k.rest)

-- bus-off, else passive from 128 on, else active
abbrev pub state_of : Counters → State
state_of k = if k.off then BusOff else if nat_le 128 k.tec || nat_le 128 k.rec then Passive else Active

-- a request in progress is marked, unless it would be dropped where it fails or loses anyway; any other is dropped
abbrev pub abort_of : Bool → Option Request → Bool → AbortOutcome
abort_of in_progress None marked = Unchanged
abort_of true (Some request) marked = if request.single_shot || marked then Unchanged else Marked
abort_of false (Some request) marked = Dropped
