-- A bit in which nothing happens that a node shows.
use Rattle.std.specs.Prelude.{◌≡◌, Bool, true, false, Option, Some, None, List, [], ◌∷◌, ◌++◌}
use Rattle.can_levels.specs.declared.level.Level.{Level}
use Rattle.can_bits.specs.declared.shift.Shift.{Shift}
use Rattle.can_node.specs.declared.stage.Stage.{Stage}
use Rattle.can_node.specs.declared.stage.Stage.TheVariants.{InReset, Integrating, BusIdle, InFrame, LastEofBit}
use Rattle.can_node.specs.declared.stage.Stage.TheVariants.{InFlag, InDelimiter, InInterframeSpace}
use Rattle.can_node.specs.declared.after_bit.AfterBit.{AfterBit}
use Rattle.can_node.specs.declared.after_bit.AfterBit.TheVariants.{InPiece, Ended}
use Rattle.can_node.specs.declared.node.Node.{Node}
use Rattle.can_node_rules.specs.Bits.{Bit}
use Rattle.can_node_rules.specs.Context.{ContextValue}
use Rattle.can_node_rules.specs.Pieces.{Place}
use Rattle.can_node_rules.specs.Counting.{at_bit}
use Rattle.can_node_rules.specs.Driving.{Drives}
use Rattle.can_node_rules.specs.Events.{lost_in}
use Rattle.can_node.specs.Standing.{context_of}
use Rattle.can_node_rules.specs.KeptContexts.{IsKept}
use Rattle.can_node.specs.Stages.{At}

-- the piece under way goes on with the bit, to this stage and reader; arbitration isn't lost, and no counter, role or
-- request changes
pub record IsQuietTurn (stage : Stage) (shift : Shift) (c now : ContextValue) (place : Place) (bits : List Bit)
    (b : Bit) : Type 0 where
  pub lost : None ≡ lost_in now place bits b
  pub steps : now ≡ at_bit now place bits b
  pub at : At stage shift c now place (bits ++ b ∷ [])

-- the same wherever the node may stand: with this level it comes to this stage
abbrev pub TurnsQuietly : Node → Level → Stage → Type 0
TurnsQuietly node seen stage =
    (c : ContextValue) (place : Place) (bits : List Bit) →
    At node.stage node.shift c (context_of node.context) place bits →
    IsKept place c (context_of node.context) → Drives (context_of node.context) place bits node.next →
    IsQuietTurn stage node.shift c (context_of node.context) place bits (record { driven = node.next; seen = seen })

-- outside a frame, where the bus isn't idle: what a node drives there is the same all along a piece (Bosch CAN 2.0
-- part A sections 3.1.3 to 3.1.5)
abbrev pub is_outside : Stage → Bool
is_outside InReset = true
is_outside (Integrating left run) = true
is_outside BusIdle = false
is_outside InFrame = false
is_outside LastEofBit = true
is_outside (InFlag bits last) = true
is_outside (InDelimiter dominant recessive) = true
is_outside (InInterframeSpace bits) = true

-- the stage of a piece that goes on
abbrev pub stage_in : AfterBit → Option Stage
stage_in (InPiece stage) = Some stage
stage_in (Ended ending) = None
