-- What a node drives in its next bit (Bosch CAN 2.0 part A section 3.1), and its phase (this project's own rule).
use Rattle.std.specs.Prelude.{◌≡◌, nat_lt, if◌then◌else◌, Option, Some, None, List, [], ◌∷◌, ◌++◌, length}
use Rattle.can_levels.specs.declared.level.Level.{Level}
use Rattle.can_levels.specs.declared.level.Level.TheVariants.{Dominant, Recessive}
use Rattle.can_levels.specs.Line.{tail}
use Rattle.can_node_rules.specs.declared.role.Role.{Role}
use Rattle.can_node_rules.specs.declared.role.Role.TheVariants.{Transmitter, Receiver}
use Rattle.can_node_rules.specs.declared.request.Request.{Request}
use Rattle.can_node_rules.specs.declared.phase.Phase.{Phase}
use Rattle.can_node_rules.specs.declared.phase.Phase.TheVariants.{Reset, Waiting, Idle as IdlePhase}
use Rattle.can_node_rules.specs.declared.phase.Phase.TheVariants.{Frame as FramePhase, Flag as FlagPhase}
use Rattle.can_node_rules.specs.declared.phase.Phase.TheVariants.{Delimiter as DelimiterPhase, Intermission, Suspension}
use Rattle.can_node_rules.specs.Bits.{Bit, dominant_bit, seen_of, driven_of}
use Rattle.can_node_rules.specs.Context.{ContextValue, flag_level}
use Rattle.can_node_rules.specs.Pieces.{Place, sent_at}
use Rattle.can_node_rules.specs.Pieces.Place.{AtReset, AtIntegration, AtIdle, AfterSof}
use Rattle.can_node_rules.specs.Pieces.Place.{AtLastEofBit, AtFlag, AtDelimiter, AtInterframeSpace}
use Rattle.can_node_rules.specs.Frames.{Acknowledges, SentPart}

-- the next level of the line that a transmitter sends, of which these bits came (Bosch CAN 2.0 part A section 3.1.1)
pub record TransmitsNext (request : Request) (bits : List Bit) (x : Level) : Type 0 where
  pub check : List Level
  pub part : List Level
  pub rest : List Level
  pub is_part : SentPart request.frame check part
  pub whole : part ++ tail Recessive ≡ driven_of bits ++ x ∷ rest

-- what a node drives in a frame: the next level of its line, or its acknowledgement
abbrev pub FrameDrives : Role → ContextValue → List Bit → Level → Type 0
FrameDrives Transmitter c bits x = (request : Request) × (c.held ≡ Some request) × TransmitsNext request bits x
FrameDrives Receiver c bits x = Acknowledges c.listen (seen_of bits) x

-- what it drives where the bus is idle: SOF, where a frame is to be sent
abbrev pub IdleDrives : Option Request → Level → Type 0
IdleDrives None x = x ≡ Recessive
IdleDrives (Some request) x = x ≡ Dominant

-- what it drives in the next bit, where these bits of the piece at this place came; outside frames and flags recessive
-- (part A sections 3.1.3 to 3.1.5)
abbrev pub Drives : ContextValue → Place → List Bit → Level → Type 0
Drives c AtReset bits x = x ≡ Recessive
Drives c AtIntegration bits x = x ≡ Recessive
Drives c AtIdle [] x = IdleDrives (sent_at c AtIdle) x
Drives c AtIdle (b ∷ bits) x = FrameDrives c.role c (b ∷ bits) x
Drives c AfterSof bits x = FrameDrives c.role c (dominant_bit Dominant ∷ bits) x
Drives c AtLastEofBit bits x = x ≡ Recessive
Drives c AtFlag bits x = x ≡ flag_level c
Drives c AtDelimiter bits x = x ≡ Recessive
Drives c AtInterframeSpace bits x = x ≡ Recessive

-- the phase of the next bit; the first three bits of interframe space are intermission (part A section 3.1.5)
abbrev pub phase_at : Place → List Bit → Phase
phase_at AtReset bits = Reset
phase_at AtIntegration bits = Waiting
phase_at AtIdle [] = IdlePhase
phase_at AtIdle (b ∷ bits) = FramePhase
phase_at AfterSof bits = FramePhase
phase_at AtLastEofBit bits = FramePhase
phase_at AtFlag bits = FlagPhase
phase_at AtDelimiter bits = DelimiterPhase
phase_at AtInterframeSpace bits = if nat_lt (length bits) 3 then Intermission else Suspension
