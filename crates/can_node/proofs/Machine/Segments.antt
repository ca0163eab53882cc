-- The segment that a node shows of its next bit.
use Rattle.std.proofs.Common.{◌≡◌, ◌≢◌, Bool, Some, None, List, [], refl, subst, sym}
use Rattle.can_levels.specs.declared.level.Level.{Level}
use Rattle.can_levels.specs.declared.segment.Segment.{Segment}
use Rattle.can_levels.specs.declared.segment.Segment.TheVariants.{EndOfFrame}
use Rattle.can_bits.specs.declared.shift.Shift.{Shift}
use Rattle.can_levels.specs.Segments.{IsNext}
use Rattle.can_bits.specs.Shifts.{StandsFor}
use Rattle.can_levels.specs.Streaming.{IsReadable}
use Rattle.can_node_rules.specs.declared.role.Role.{Role}
use Rattle.can_node_rules.specs.declared.role.Role.TheVariants.{Transmitter, Receiver}
use Rattle.can_node.specs.declared.stage.Stage.{Stage}
use Rattle.can_node.specs.declared.stage.Stage.TheVariants.{InReset as StageInReset, Integrating as StageIntegrating}
use Rattle.can_node.specs.declared.stage.Stage.TheVariants.{BusIdle as StageBusIdle, InFrame as StageInFrame}
use Rattle.can_node.specs.declared.stage.Stage.TheVariants.{LastEofBit as StageLastEofBit, InFlag as StageInFlag}
use Rattle.can_node.specs.declared.stage.Stage.TheVariants.{InDelimiter as StageInDelimiter}
use Rattle.can_node.specs.declared.stage.Stage.TheVariants.{InInterframeSpace as StageInInterframeSpace}
use Rattle.can_node_rules.specs.Bits.{Bit, seen_of}
use Rattle.can_node_rules.specs.Context.{ContextValue}
use Rattle.can_node_rules.specs.Pieces.{Place}
use Rattle.can_node_rules.specs.Pieces.Place.{AtReset, AtIntegration, AtIdle, AtLastEofBit, AtFlag, AtDelimiter}
use Rattle.can_node_rules.specs.Pieces.Place.{AtInterframeSpace}
use Rattle.can_node.specs.Stages.{At, IsReading}
use Rattle.can_node_rules.specs.UnfinishedPieces.{ByRole, IsInFrame, frame_bits}
use Rattle.can_node_rules.specs.UnfinishedPieces.IsInFrame.{from_idle, from_sof}
use Rattle.can_node.specs.NextField.{SegmentAt}
use Rattle.can_node.proofs.Machine.FrameTurns.{transmitting_readable}
use Rattle.can_node_rules.proofs.Reception.ReceiverBits.{receiving_readable}

-- what either role has seen of a frame can go on
pub readable_by : (role : Role) (c now : ContextValue) (place : Place) (bits : List Bit) →
    ByRole role c now place bits → IsReadable (seen_of (frame_bits place bits))
readable_by Transmitter c now place bits h = transmitting_readable c now place bits h
readable_by Receiver c now place bits h = receiving_readable c place bits h

-- a reader for the levels of a frame says the segment of the next one
abbrev pub SaysSegment : Shift → Segment → Type 0
SaysSegment shift s =
    (l : List Level) → StandsFor shift l → IsReadable l → (stuff_bit : Bool) × IsNext l s stuff_bit

in_segment : (place : Place) (bits : List Bit) (s : Segment) → IsInFrame place bits →
    (stuff_bit : Bool) × IsNext (seen_of (frame_bits place bits)) s stuff_bit → SegmentAt place bits (Some s)
in_segment place bits s (from_idle b more) told = record { segment = s; some = refl; stuff_bit = told.0; next = told.1 }
in_segment place bits s (from_sof more) told = record { segment = s; some = refl; stuff_bit = told.0; next = told.1 }

-- in a frame
pub frame_segment : (shift : Shift) (c now : ContextValue) (place : Place) (bits : List Bit) (s : Segment) →
    IsReading shift c now place bits → SaysSegment shift s → SegmentAt place bits (Some s)
frame_segment shift c now place bits s h says =
    in_segment place bits s h.site
    (says (seen_of (frame_bits place bits)) h.stands (readable_by now.role c now place bits h.by_role))

-- at the last bit of EOF
pub last_segment : (place : Place) (bits : List Bit) → place ≡ AtLastEofBit → SegmentAt place bits (Some EndOfFrame)
last_segment place bits e = let P : Place → Type 0 = λ s. SegmentAt s bits (Some EndOfFrame) in subst P (sym e) refl

-- at a place where no frame is under way
none_at : (place other : Place) (bits : List Bit) → place ≡ other → SegmentAt other bits None →
    SegmentAt place bits None
none_at place other bits e h = let P : Place → Type 0 = λ s. SegmentAt s bits None in subst P (sym e) h

none_idle : (bits : List Bit) → bits ≡ [] → SegmentAt AtIdle bits None
none_idle bits e = let P : List Bit → Type 0 = λ l. SegmentAt AtIdle l None in subst P (sym e) refl

-- elsewhere
pub no_segment : (stage : Stage) (shift : Shift) (c now : ContextValue) (place : Place) (bits : List Bit) →
    At stage shift c now place bits → stage ≢ StageInFrame → stage ≢ StageLastEofBit → SegmentAt place bits None
no_segment StageInReset shift c now place bits h out last = none_at place AtReset bits h.0 refl
no_segment (StageIntegrating left run) shift c now place bits h out last =
    none_at place AtIntegration bits h.0 refl
no_segment StageBusIdle shift c now place bits h out last = none_at place AtIdle bits h.0 (none_idle bits h.1)
no_segment StageInFrame shift c now place bits h out last = absurd (out refl)
no_segment StageLastEofBit shift c now place bits h out last = absurd (last refl)
no_segment (StageInFlag n level) shift c now place bits h out last = none_at place AtFlag bits h.0 refl
no_segment (StageInDelimiter d r) shift c now place bits h out last = none_at place AtDelimiter bits h.0 refl
no_segment (StageInInterframeSpace n) shift c now place bits h out last =
    none_at place AtInterframeSpace bits h.0 refl
