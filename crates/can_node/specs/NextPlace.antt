-- What the cut of a record says of the place of the next bit in a frame (this project's own rule; SJA1000 data sheet,
-- 6.4.9).
use Rattle.std.specs.Prelude.{◌≡◌, ◌==◌, ◌+◌, ◌&&◌, ℕ, Bool, false, nat_lt, is_some, if◌then◌else◌}
use Rattle.std.specs.Prelude.{Option, Some, None, List, [], ◌∷◌, length}
use Rattle.can_levels.specs.declared.level.Level.{Level}
use Rattle.can_levels.specs.declared.level.Level.TheVariants.{Dominant}
use Rattle.can_levels.specs.declared.segment.Segment.TheVariants.{RtrStandard, EndOfFrame}
use Rattle.can_levels.specs.declared.frame_place.FramePlace.{FramePlace}
use Rattle.can_levels.specs.declared.frame_place.FramePlace.TheVariants.{Plain, StuffBit}
use Rattle.can_levels.specs.FramePlaces.{IsNextPlace}
use Rattle.can_levels.specs.Segments.{code_of}
use Rattle.can_node.specs.declared.node.Node.{Node}
use Rattle.can_node_rules.specs.declared.node_place.NodePlace.{NodePlace}
use Rattle.can_node_rules.specs.declared.node_place.NodePlace.TheVariants.{Start, Srr, InFrame, Intermission}
use Rattle.can_node_rules.specs.declared.request.Request.{Request}
use Rattle.can_node_rules.specs.Bits.{Bit, seen_of}
use Rattle.can_node_rules.specs.Context.{ContextValue, is_transmitter}
use Rattle.can_node_rules.specs.Pieces.{Place, sent_at}
use Rattle.can_node_rules.specs.Pieces.Place.{AtReset, AtIntegration, AtIdle, AfterSof}
use Rattle.can_node_rules.specs.Pieces.Place.{AtLastEofBit, AtFlag, AtDelimiter, AtInterframeSpace}
use Rattle.can_node_rules.specs.Record.{RecordEntry}
use Rattle.can_node_rules.specs.Cut.{FinishedPiece, IsCut}
use Rattle.can_node_rules.specs.NextBit.{now_in, open_bits}
use Rattle.can_node.specs.Stands.{StandsAt}

-- ---- a frame

-- the node sends an extended frame
abbrev pub is_extended : Option Request → Bool
is_extended None = false
is_extended (Some request) = request.frame.ext

abbrev pub sends_extended : ContextValue → Bool
sends_extended c = is_transmitter c.role && is_extended c.held

-- RTR of a standard frame, or SRR of an extended one: one segment has both
abbrev pub is_first_remote : FramePlace → Bool
is_first_remote (Plain segment index) = code_of segment == code_of RtrStandard
is_first_remote (StuffBit number) = false

-- who sends an extended frame knows that the bit is SRR; a receiver doesn't know the format there
abbrev pub in_frame : Bool → FramePlace → NodePlace
in_frame extended place = if is_first_remote place && extended then Srr else InFrame place

-- the place of the next level after these levels of a line
pub record IsAfter (extended : Bool) (l : List Level) (shown : Option NodePlace) : Type 0 where
  pub place : FramePlace
  pub some : shown ≡ Some (in_frame extended place)
  pub next : IsNextPlace l place

-- ---- between frames

-- on an idle bus: SOF, where the node starts a frame
abbrev pub start_if : Bool → Option NodePlace
start_if starts = if starts then Some Start else None

-- after so many bits of interframe space: the first three are intermission (Bosch CAN 2.0 part A section 3.1.5)
abbrev pub pause_if : ℕ → Option NodePlace
pause_if bits = if nat_lt bits 3 then Some (Intermission (bits + 1)) else None

-- ---- the cut

-- the place of the next bit, in this context and where these bits of the piece came. Where interframe space ended with
-- SOF, SOF isn't among these bits
abbrev pub PlaceAt : ContextValue → Place → List Bit → Option NodePlace → Type 0
PlaceAt c AtReset bits shown = shown ≡ None
PlaceAt c AtIntegration bits shown = shown ≡ None
PlaceAt c AtIdle [] shown = shown ≡ start_if (is_some (sent_at c AtIdle))
PlaceAt c AtIdle (b ∷ bits) shown = IsAfter (sends_extended c) (seen_of (b ∷ bits)) shown
PlaceAt c AfterSof bits shown = IsAfter (sends_extended c) (Dominant ∷ seen_of bits) shown
PlaceAt c AtLastEofBit bits shown = shown ≡ Some (InFrame (Plain EndOfFrame 6))
PlaceAt c AtFlag bits shown = shown ≡ None
PlaceAt c AtDelimiter bits shown = shown ≡ None
PlaceAt c AtInterframeSpace bits shown = shown ≡ pause_if (length bits)

-- the same by the cut
abbrev pub PlaceIn : {entries : List RecordEntry} {found : List FinishedPiece} → IsCut entries found →
    Option NodePlace → Type 0
PlaceIn cut shown = PlaceAt (now_in cut) cut.place (open_bits cut) shown

-- a node shows it, at whatever record it stands
abbrev pub ShowsPlace : Node → Option NodePlace → Type 0
ShowsPlace node result =
    (entries : List RecordEntry) (found : List FinishedPiece) (h : StandsAt node entries found) → PlaceIn h.cut result
