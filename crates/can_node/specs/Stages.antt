-- How far a node is in the piece under way: what its stage says of the bits of the piece that came. c is the context
-- right before the piece, and now the one of the next bit.
use Rattle.std.specs.Prelude.{◌≡◌}
use Rattle.std.specs.Prelude.{None, List, []}
use Rattle.can_bits.specs.declared.shift.Shift.{Shift}
use Rattle.can_bits.specs.Shifts.{StandsFor}
use Rattle.can_node_rules.specs.declared.role.Role.TheVariants.{Receiver}
use Rattle.can_node.specs.declared.stage.Stage.{Stage}
use Rattle.can_node.specs.declared.stage.Stage.TheVariants.{InReset as StageInReset, Integrating as StageIntegrating}
use Rattle.can_node.specs.declared.stage.Stage.TheVariants.{BusIdle as StageBusIdle, InFrame as StageInFrame}
use Rattle.can_node.specs.declared.stage.Stage.TheVariants.{LastEofBit as StageLastEofBit, InFlag as StageInFlag}
use Rattle.can_node.specs.declared.stage.Stage.TheVariants.{InDelimiter as StageInDelimiter}
use Rattle.can_node.specs.declared.stage.Stage.TheVariants.{InInterframeSpace as StageInInterframeSpace}
use Rattle.can_node_rules.specs.Bits.{Bit, seen_of}
use Rattle.can_node_rules.specs.Context.{ContextValue, flag_level}
use Rattle.can_node_rules.specs.Pieces.{Place}
use Rattle.can_node_rules.specs.Pieces.Place.{AtReset, AtIntegration, AtIdle}
use Rattle.can_node_rules.specs.Pieces.Place.{AtLastEofBit, AtFlag, AtDelimiter, AtInterframeSpace}
use Rattle.can_node_rules.specs.UnfinishedPieces.{IsIntegrating, frame_bits, IsInFrame, ByRole, IsInFlag}
use Rattle.can_node_rules.specs.UnfinishedPieces.{IsInDelimiter, IsInInterframeSpace}

-- the reader of levels stands for the frame so far
pub record IsReading (shift : Shift) (c now : ContextValue) (place : Place) (bits : List Bit) : Type 0 where
  pub site : IsInFrame place bits
  pub stands : StandsFor shift (seen_of (frame_bits place bits))
  pub by_role : ByRole now.role c now place bits

-- ---- the stage and the reader say where in the piece the node is
abbrev pub At : Stage → Shift → ContextValue → ContextValue → Place → List Bit → Type 0
At StageInReset shift c now place bits = (place ≡ AtReset) × (now.held ≡ None)
At (StageIntegrating left run) shift c now place bits = (place ≡ AtIntegration) × IsIntegrating left run c bits
At StageBusIdle shift c now place bits = (place ≡ AtIdle) × (bits ≡ []) × (now.role ≡ Receiver) × (c ≡ now)
At StageInFrame shift c now place bits = IsReading shift c now place bits
At StageLastEofBit shift c now place bits = (place ≡ AtLastEofBit) × (bits ≡ [])
At (StageInFlag n last) shift c now place bits = (place ≡ AtFlag) × IsInFlag (flag_level c) n last c bits
At (StageInDelimiter dominant recessive) shift c now place bits =
    (place ≡ AtDelimiter) × IsInDelimiter dominant recessive bits
At (StageInInterframeSpace n) shift c now place bits = (place ≡ AtInterframeSpace) × IsInInterframeSpace n c bits
