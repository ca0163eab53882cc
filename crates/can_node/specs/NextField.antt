-- What the cut of a record says of the next bit beside its phase: role, request, flag, and the segment of the frame
-- that is on the bus (this project's own rule).
use Rattle.std.specs.Prelude.{◌≡◌, Bool, Option, Some, None, List, [], ◌∷◌}
use Rattle.can_levels.specs.declared.level.Level.{Level}
use Rattle.can_levels.specs.declared.level.Level.TheVariants.{Dominant}
use Rattle.can_levels.specs.declared.segment.Segment.{Segment}
use Rattle.can_levels.specs.declared.segment.Segment.TheVariants.{EndOfFrame}
use Rattle.can_levels.specs.Segments.{IsNext}
use Rattle.can_node_rules.specs.declared.flag_kind.FlagKind.{FlagKind}
use Rattle.can_node_rules.specs.declared.request.Request.{Request}
use Rattle.can_node.specs.declared.node.Node.{Node}
use Rattle.can_node_rules.specs.Bits.{Bit, seen_of}
use Rattle.can_node_rules.specs.Context.{is_transmitter}
use Rattle.can_node_rules.specs.Pieces.{Place}
use Rattle.can_node_rules.specs.Pieces.Place.{AtReset, AtIntegration, AtIdle, AfterSof}
use Rattle.can_node_rules.specs.Pieces.Place.{AtLastEofBit, AtFlag, AtDelimiter, AtInterframeSpace}
use Rattle.can_node_rules.specs.Record.{RecordEntry}
use Rattle.can_node_rules.specs.Cut.{FinishedPiece, IsCut}
use Rattle.can_node_rules.specs.NextBit.{now_in, open_bits}
use Rattle.can_node.specs.Stands.{StandsAt}

-- the segment of the next level after these levels of a line (SJA1000 data sheet, 6.4.9)
pub record IsInSegment (l : List Level) (shown : Option Segment) : Type 0 where
  pub segment : Segment
  pub some : shown ≡ Some segment
  pub stuff_bit : Bool
  pub next : IsNext l segment stuff_bit

-- the segment of the next bit, where these bits of the piece at this place came: of a frame from its second bit on, the
-- one after the levels that the node saw of it. Where interframe space ended with SOF, SOF isn't among these bits
abbrev pub SegmentAt : Place → List Bit → Option Segment → Type 0
SegmentAt AtReset bits shown = shown ≡ None
SegmentAt AtIntegration bits shown = shown ≡ None
SegmentAt AtIdle [] shown = shown ≡ None
SegmentAt AtIdle (b ∷ bits) shown = IsInSegment (seen_of (b ∷ bits)) shown
SegmentAt AfterSof bits shown = IsInSegment (Dominant ∷ seen_of bits) shown
SegmentAt AtLastEofBit bits shown = shown ≡ Some EndOfFrame
SegmentAt AtFlag bits shown = shown ≡ None
SegmentAt AtDelimiter bits shown = shown ≡ None
SegmentAt AtInterframeSpace bits shown = shown ≡ None

-- the same by the cut
abbrev pub SegmentIn : {entries : List RecordEntry} {found : List FinishedPiece} → IsCut entries found →
    Option Segment → Type 0
SegmentIn cut shown = SegmentAt cut.place (open_bits cut) shown

-- ---- what a node shows, at whatever record it stands

abbrev pub ShowsSegment : Node → Option Segment → Type 0
ShowsSegment node result =
    (entries : List RecordEntry) (found : List FinishedPiece) (h : StandsAt node entries found) → SegmentIn h.cut result

abbrev pub ShowsRole : Node → Bool → Type 0
ShowsRole node result =
    (entries : List RecordEntry) (found : List FinishedPiece) (h : StandsAt node entries found) →
    result ≡ is_transmitter (now_in h.cut).role

abbrev pub ShowsRequest : Node → Option Request → Type 0
ShowsRequest node result =
    (entries : List RecordEntry) (found : List FinishedPiece) (h : StandsAt node entries found) →
    result ≡ (now_in h.cut).held

abbrev pub ShowsFlag : Node → FlagKind → Type 0
ShowsFlag node result =
    (entries : List RecordEntry) (found : List FinishedPiece) (h : StandsAt node entries found) →
    result ≡ (now_in h.cut).flag
