-- The place that a node shows of its next bit.
use Rattle.std.proofs.Common.{◌≡◌, ◌≢◌, ℕ, Some, None, List, [], length, refl, subst, sym, ap, ◌∙◌}
use Rattle.std.specs.Prelude.{Option, is_some, replicate}
use Rattle.std.proofs.lemmas.List.{length-map, length-replicate}
use Rattle.can_levels.specs.declared.level.Level.{Level}
use Rattle.can_levels.specs.declared.level.Level.TheVariants.{Recessive}
use Rattle.can_levels.specs.declared.segment.Segment.TheVariants.{EndOfFrame}
use Rattle.can_levels.specs.declared.frame_place.FramePlace.{FramePlace}
use Rattle.can_levels.specs.declared.frame_place.FramePlace.TheVariants.{Plain}
use Rattle.can_bits.specs.declared.shift.Shift.{Shift}
use Rattle.can_levels.specs.FramePlaces.{IsNextPlace}
use Rattle.can_bits.specs.Shifts.{StandsFor}
use Rattle.can_levels.specs.Streaming.{IsReadable}
use Rattle.can_node_rules.specs.declared.node_place.NodePlace.{NodePlace}
use Rattle.can_node_rules.specs.declared.node_place.NodePlace.TheVariants.{InFrame}
use Rattle.can_node.specs.declared.stage.Stage.{Stage}
use Rattle.can_node.specs.declared.stage.Stage.TheVariants.{InReset as StageInReset, Integrating as StageIntegrating}
use Rattle.can_node.specs.declared.stage.Stage.TheVariants.{BusIdle as StageBusIdle, InFrame as StageInFrame}
use Rattle.can_node.specs.declared.stage.Stage.TheVariants.{LastEofBit as StageLastEofBit, InFlag as StageInFlag}
use Rattle.can_node.specs.declared.stage.Stage.TheVariants.{InDelimiter as StageInDelimiter}
use Rattle.can_node.specs.declared.stage.Stage.TheVariants.{InInterframeSpace as StageInInterframeSpace}
use Rattle.can_node_rules.specs.Bits.{Bit, seen_of, recessive_bit}
use Rattle.can_node_rules.specs.Context.{ContextValue}
use Rattle.can_node_rules.specs.Pieces.{Place, sent_at}
use Rattle.can_node_rules.specs.Pieces.Place.{AtReset, AtIntegration, AtIdle, AtLastEofBit, AtFlag, AtDelimiter}
use Rattle.can_node_rules.specs.Pieces.Place.{AtInterframeSpace}
use Rattle.can_node.specs.Stages.{At, IsReading}
use Rattle.can_node_rules.specs.UnfinishedPieces.{IsInFrame, IsInInterframeSpace, frame_bits}
use Rattle.can_node_rules.specs.UnfinishedPieces.IsInFrame.{from_idle, from_sof}
use Rattle.can_node.specs.NextPlace.{PlaceAt, in_frame, sends_extended, start_if, pause_if}
use Rattle.can_node.proofs.Machine.Segments.{readable_by}

-- a reader for the levels of a frame says the place of the next one
abbrev pub SaysPlace : Shift → FramePlace → Type 0
SaysPlace shift p = (l : List Level) → StandsFor shift l → IsReadable l → IsNextPlace l p

after_bits : (c : ContextValue) (place : Place) (bits : List Bit) (p : FramePlace) → IsInFrame place bits →
    IsNextPlace (seen_of (frame_bits place bits)) p → PlaceAt c place bits (Some (in_frame (sends_extended c) p))
after_bits c place bits p (from_idle b more) told = record { place = p; some = refl; next = told }
after_bits c place bits p (from_sof more) told = record { place = p; some = refl; next = told }

-- in a frame
pub frame_place : (shift : Shift) (c now : ContextValue) (place : Place) (bits : List Bit) (p : FramePlace) →
    IsReading shift c now place bits → SaysPlace shift p →
    PlaceAt now place bits (Some (in_frame (sends_extended now) p))
frame_place shift c now place bits p h says =
    after_bits now place bits p h.site
    (says (seen_of (frame_bits place bits)) h.stands (readable_by now.role c now place bits h.by_role))

-- at one place and another
at_place : (now : ContextValue) (place other : Place) (bits : List Bit) (shown : Option NodePlace) → place ≡ other →
    PlaceAt now other bits shown → PlaceAt now place bits shown
at_place now place other bits shown e h =
    let P : Place → Type 0 = λ s. PlaceAt now s bits shown in subst P (sym e) h

-- on an idle bus
pub idle_place : (now : ContextValue) (place : Place) (bits : List Bit) (shown : Option NodePlace) → place ≡ AtIdle →
    bits ≡ [] → shown ≡ start_if (is_some (sent_at now AtIdle)) → PlaceAt now place bits shown
idle_place now place bits shown e none is =
    let P : List Bit → Type 0 = λ l. PlaceAt now AtIdle l shown in
    at_place now place AtIdle bits shown e (subst P (sym none) is)

-- at the last bit of EOF
pub last_place : (now : ContextValue) (place : Place) (bits : List Bit) → place ≡ AtLastEofBit →
    PlaceAt now place bits (Some (InFrame (Plain EndOfFrame 6)))
last_place now place bits e = at_place now place AtLastEofBit bits (Some (InFrame (Plain EndOfFrame 6))) e refl

-- in interframe space
pub pause_place : (n : ℕ) (c now : ContextValue) (place : Place) (bits : List Bit) (shown : Option NodePlace) →
    place ≡ AtInterframeSpace → IsInInterframeSpace n c bits → shown ≡ pause_if n → PlaceAt now place bits shown
pause_place n c now place bits shown e h is =
    let many : length bits ≡ n =
    ap length h.whole ∙ length-map (replicate n Recessive) recessive_bit ∙ length-replicate n Recessive in
    at_place now place AtInterframeSpace bits shown e (is ∙ ap pause_if (sym many))

-- elsewhere
pub no_place : (stage : Stage) (shift : Shift) (c now : ContextValue) (place : Place) (bits : List Bit) →
    At stage shift c now place bits → stage ≢ StageBusIdle → stage ≢ StageInFrame → stage ≢ StageLastEofBit →
    ((n : ℕ) → stage ≢ StageInInterframeSpace n) → PlaceAt now place bits None
no_place StageInReset shift c now place bits h idle out last pause = at_place now place AtReset bits None h.0 refl
no_place (StageIntegrating left run) shift c now place bits h idle out last pause =
    at_place now place AtIntegration bits None h.0 refl
no_place StageBusIdle shift c now place bits h idle out last pause = absurd (idle refl)
no_place StageInFrame shift c now place bits h idle out last pause = absurd (out refl)
no_place StageLastEofBit shift c now place bits h idle out last pause = absurd (last refl)
no_place (StageInFlag n level) shift c now place bits h idle out last pause =
    at_place now place AtFlag bits None h.0 refl
no_place (StageInDelimiter d r) shift c now place bits h idle out last pause =
    at_place now place AtDelimiter bits None h.0 refl
no_place (StageInInterframeSpace n) shift c now place bits h idle out last pause = absurd (pause n refl)
