-- Where in a frame a bit comes.
use Rattle.std.proofs.Common.{◌≡◌, List, []}
use Rattle.std.proofs.Common.{◌∷◌, ◌++◌, refl}
use Rattle.can_levels.specs.declared.level.Level.{Level}
use Rattle.can_levels.specs.declared.level.Level.TheVariants.{Dominant, Recessive}
use Rattle.can_node_rules.specs.Bits.{Bit, seen_of}
use Rattle.can_node_rules.specs.Context.{ContextValue}
use Rattle.can_node_rules.specs.Pieces.{Place}
use Rattle.can_node_rules.specs.Counting.{at_bit, frame_bit, if_acknowledged}
use Rattle.can_node_rules.specs.Driving.{Drives, FrameDrives}
use Rattle.can_node_rules.specs.UnfinishedPieces.{IsFramePlace, IsInFrame}
use Rattle.can_node_rules.specs.UnfinishedPieces.{frame_bits}
use Rattle.can_node_rules.specs.UnfinishedPieces.IsFramePlace.{idle_place, sof_place}
use Rattle.can_node_rules.specs.UnfinishedPieces.IsInFrame.{from_idle, from_sof}

-- ---- a frame at its two places

-- a frame stands at one of them
pub place_of : (place : Place) (bits : List Bit) → IsInFrame place bits → IsFramePlace place
place_of place bits (from_idle b more) = idle_place
place_of place bits (from_sof more) = sof_place

-- with one bit more
pub still_in : (place : Place) (bits : List Bit) (b : Bit) → IsInFrame place bits → IsInFrame place (bits ++ b ∷ [])
still_in place bits b (from_idle x more) = from_idle x (more ++ b ∷ [])
still_in place bits b (from_sof more) = from_sof (more ++ b ∷ [])

-- its bit is a bit of a frame
pub frame_at : (now : ContextValue) (place : Place) (bits : List Bit) (b : Bit) → IsInFrame place bits →
    at_bit now place bits b ≡ frame_bit now.role now (seen_of (frame_bits place bits)) b
frame_at now place bits b (from_idle x more) = refl
frame_at now place bits b (from_sof more) = refl

-- and the other way round
pub drives_frame : (now : ContextValue) (place : Place) (bits : List Bit) (x : Level) → IsInFrame place bits →
    FrameDrives now.role now (frame_bits place bits) x →
    Drives now place bits x
drives_frame now place bits x (from_idle y more) h = h
drives_frame now place bits x (from_sof more) h = h

-- ---- the context after it

-- a receiver stays receiver
pub receives : (c : ContextValue) (x y : Level) → (if_acknowledged x y c).role ≡ c.role
receives c Dominant Dominant = refl
receives c Dominant Recessive = refl
receives c Recessive y = refl
