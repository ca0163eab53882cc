-- A node that stands at a record, and what its calls do (this project's own rule).
use Rattle.std.specs.Prelude.{⊤, ◌≡◌, ◌≢◌, ◌⊎◌, not, Bool, true, false, nat_lt}
use Rattle.std.specs.Prelude.{if◌then◌else◌, None, Result, Ok, Err, List, [], ◌∷◌, ◌++◌}
use Rattle.can_levels.specs.declared.level.Level.{Level}
use Rattle.can_node_rules.specs.declared.request.Request.{Request}
use Rattle.can_node_rules.specs.declared.abort_outcome.AbortOutcome.{AbortOutcome}
use Rattle.can_node_rules.specs.declared.abort_outcome.AbortOutcome.TheVariants.{Unchanged, Marked, Dropped}
use Rattle.can_node_rules.specs.declared.phase.Phase.{Phase}
use Rattle.can_node_rules.specs.declared.counters.Counters.{Counters}
use Rattle.can_node_rules.specs.declared.bit_events.BitEvents.{BitEvents}
use Rattle.can_node_rules.specs.declared.phase.Phase.TheVariants.{Reset, Waiting, Idle as IdlePhase}
use Rattle.can_node_rules.specs.declared.phase.Phase.TheVariants.{Frame as FramePhase, Flag as FlagPhase}
use Rattle.can_node_rules.specs.declared.phase.Phase.TheVariants.{Delimiter as DelimiterPhase, Intermission, Suspension}
use Rattle.can_node.specs.declared.stage.Stage.{Stage}
use Rattle.can_node.specs.declared.stage.Stage.TheVariants.{InReset as StageInReset, Integrating as StageIntegrating}
use Rattle.can_node.specs.declared.stage.Stage.TheVariants.{BusIdle as StageBusIdle, InFrame as StageInFrame}
use Rattle.can_node.specs.declared.stage.Stage.TheVariants.{LastEofBit as StageLastEofBit, InFlag as StageInFlag}
use Rattle.can_node.specs.declared.stage.Stage.TheVariants.{InDelimiter as StageInDelimiter}
use Rattle.can_node.specs.declared.stage.Stage.TheVariants.{InInterframeSpace as StageInInterframeSpace}
use Rattle.can_node.specs.declared.node.Node.{Node}
use Rattle.can_node_rules.specs.Bits.{Bit}
use Rattle.can_node_rules.specs.Context.{is_held, is_transmitter}
use Rattle.can_node_rules.specs.Pieces.Place.{AtReset}
use Rattle.can_node_rules.specs.Record.{RecordEntry}
use Rattle.can_node_rules.specs.Record.RecordEntry.{OneBit, Send, Abort}
use Rattle.can_node_rules.specs.Effects.{is_in_progress}
use Rattle.can_node_rules.specs.Cut.{FinishedPiece, IsCut, none_yet, counted}
use Rattle.can_node_rules.specs.Events.{Step, events_of}
use Rattle.can_node_rules.specs.NextBit.{now_in, open_bits, phase_in, DrivesIn, is_at_rest}
use Rattle.can_node.specs.Standing.{context_of, HasBody}
use Rattle.can_node.specs.Stages.{At}
use Rattle.can_node_rules.specs.Outcomes.{entries_of, closed_by, nothing, abort_of}

-- by its fields the node stands at this record, cut into these finished pieces, with a piece perhaps that isn't
-- finished at its end: they say the context of the next bit, and how far that piece has come
pub record FollowsAt (node : Node) (entries : List RecordEntry) (found : List FinishedPiece) : Type 0 where
  pub cut : IsCut entries found
  pub shows : context_of node.context ≡ now_in cut
  pub at : At node.stage node.shift cut.context (now_in cut) cut.place (open_bits cut)

-- the node stands at this record: and it keeps the level that is driven in the next bit, and the body of its request
pub record StandsAt (node : Node) (entries : List RecordEntry) (found : List FinishedPiece) : Type 0 where
  pub cut : IsCut entries found
  pub shows : context_of node.context ≡ now_in cut
  pub at : At node.stage node.shift cut.context (now_in cut) cut.place (open_bits cut)
  pub next : DrivesIn cut node.next
  pub body : HasBody node.context node.body

-- one bit leads from a record to the record with it, and tells what the cut has there
pub record Leads (node new : Node) (entries : List RecordEntry) (found : List FinishedPiece)
    (h : StandsAt node entries found)
    (b : Bit) (e : BitEvents) : Type 0 where
  pub step : Step
  pub told : e ≡ events_of step (now_in h.cut) h.cut.place (open_bits h.cut) b
  pub stands : StandsAt new (entries ++ entries_of b e)
      (found ++ closed_by (counted none_yet (entries ++ OneBit b ∷ [])) step)
  -- the role that it tells is the one that the node then has
  pub role : e.receiving ≡ not (is_transmitter (now_in stands.cut).role)

-- the node is in reset
abbrev pub InReset : Node → Type 0
InReset node = node.stage ≡ StageInReset

-- in reset a bit brings nothing: no frame is received, bus-off doesn't come, and the node stays in reset
pub record Rests (new : Node) (e : BitEvents) : Type 0 where
  pub nothing : e.received ≡ None
  pub stays : e.went_off ≡ false
  pub reset : InReset new

-- ---- what a node shows, at whatever record it stands

-- whether it is receiver
abbrev pub is_receiving : Node → Bool
is_receiving node = not (is_transmitter node.context.role)

-- its error counters
abbrev pub shown_counters : Node → Counters
shown_counters node = node.context.counters

abbrev pub phase_of_stage : Stage → Phase
phase_of_stage StageInReset = Reset
phase_of_stage (StageIntegrating left run) = Waiting
phase_of_stage StageBusIdle = IdlePhase
phase_of_stage StageInFrame = FramePhase
phase_of_stage StageLastEofBit = FramePhase
phase_of_stage (StageInFlag bits last) = FlagPhase
phase_of_stage (StageInDelimiter dominant recessive) = DelimiterPhase
phase_of_stage (StageInInterframeSpace bits) = if nat_lt bits 3 then Intermission else Suspension

-- the phase of its next bit
abbrev pub shown_phase : Node → Phase
shown_phase node = phase_of_stage node.stage

-- whether it holds a request
abbrev pub holds_request : Node → Bool
holds_request node = is_held node.context.held

-- after a bit it shows what it showed before: the counters, the phase, the role, and whether it holds a request
pub record ShowsSame (old new : Node) : Type 0 where
  pub counters : shown_counters new ≡ shown_counters old
  pub phase : shown_phase new ≡ shown_phase old
  pub receiving : is_receiving new ≡ is_receiving old
  pub holds : holds_request new ≡ holds_request old

-- ---- what the calls do, for every record that the node stands at

-- with one entry more, and the same pieces
abbrev pub Enters : Node → Node → RecordEntry → Type 0
Enters old new entry = (entries : List RecordEntry) (found : List FinishedPiece) → StandsAt old entries found →
    StandsAt new (entries ++ entry ∷ []) found

-- one bit, in which the node drove what it drives there
abbrev pub Samples : Node → Node → Level → BitEvents → Type 0
Samples old new seen result =
    (entries : List RecordEntry) (found : List FinishedPiece) (h : StandsAt old entries found) (x : Level) →
    DrivesIn h.cut x → Leads old new entries found h (record { driven = x; seen = seen }) result

-- a node in reset stays there, whatever it sees
abbrev pub StaysReset : Node → Node → BitEvents → Type 0
StaysReset old new e = InReset old → (entries : List RecordEntry) (found : List FinishedPiece) →
    StandsAt old entries found →
    Rests new e

-- the level is the one that the node drives next
abbrev pub DrivesNext : Node → Level → Type 0
DrivesNext node result = (entries : List RecordEntry) (found : List FinishedPiece) (h : StandsAt node entries found) →
    DrivesIn h.cut result

-- the phase of the next bit
abbrev pub ShowsPhase : Node → Phase → Type 0
ShowsPhase node result = (entries : List RecordEntry) (found : List FinishedPiece) (h : StandsAt node entries found) →
    result ≡ phase_in h.cut

-- the counters that the cut gives
abbrev pub ShowsCounters : Node → Counters → Type 0
ShowsCounters node result =
    (entries : List RecordEntry) (found : List FinishedPiece) (h : StandsAt node entries found) →
    let c = now_in h.cut in (result.tec ≡ c.tec) × (result.rec ≡ c.rec) × (result.off ≡ c.off)

abbrev pub ShowsRest : Node → Bool → Type 0
ShowsRest node result = (entries : List RecordEntry) (found : List FinishedPiece) (h : StandsAt node entries found) →
    result ≡ is_at_rest h.cut

-- a request is taken, or given back where the node is in reset or holds one
abbrev pub Requests : Node → Node → Request → Result ⊤ Request → Type 0
Requests old new request (Ok done) = Enters old new (Send request)
    × ((entries : List RecordEntry) (found : List FinishedPiece) (h : StandsAt old entries found) →
    (h.cut.place ≢ AtReset) × ((now_in h.cut).held ≡ None))
Requests old new request (Err back) = (back ≡ request) × (new ≡ old)
    × ((entries : List RecordEntry) (found : List FinishedPiece) (h : StandsAt old entries found) →
    (h.cut.place ≡ AtReset) ⊎ (is_held (now_in h.cut).held ≡ true))

-- an abort that changed nothing enters nothing
abbrev pub EntersAbort : Node → Node → AbortOutcome → Type 0
EntersAbort old new Unchanged = new ≡ old
EntersAbort old new Marked = Enters old new Abort
EntersAbort old new Dropped = Enters old new Abort

abbrev pub Aborts : Node → Node → AbortOutcome → Type 0
Aborts old new result = EntersAbort old new result
    × ((entries : List RecordEntry) (found : List FinishedPiece) (h : StandsAt old entries found) →
    let c = now_in h.cut in result ≡ abort_of (is_in_progress c h.cut.place) c.held c.aborted)
