-- What a bit tells (this project's own rule; the source of what is told stands beside it).
use Rattle.std.specs.Prelude.{◌&&◌, not, ℕ, Bool, true, false, nat_le, if◌then◌else◌, Option, Some, None, List, ◌∷◌}
use Rattle.can_frame.specs.Frame.{FrameValue}
use Rattle.can_levels.specs.declared.level.Level.{Level}
use Rattle.can_levels.specs.declared.level.Level.TheVariants.{Dominant}
use Rattle.can_levels.specs.declared.segment.Segment.{Segment}
use Rattle.can_node_rules.specs.declared.cause.Cause.{Cause}
use Rattle.can_node_rules.specs.declared.outcome.Outcome.{Outcome}
use Rattle.can_node_rules.specs.declared.outcome.Outcome.TheVariants.{Sent, Failed}
use Rattle.can_node_rules.specs.declared.bit_events.BitEvents.{BitEvents}
use Rattle.can_node_rules.specs.Bits.{Bit, seen_of}
use Rattle.can_node_rules.specs.declared.role.Role.{Role}
use Rattle.can_node_rules.specs.Context.{ContextValue, is_transmitter, is_held}
use Rattle.can_node_rules.specs.declared.role.Role.TheVariants.{Transmitter, Receiver}
use Rattle.can_node_rules.specs.Pieces.{Place, Piece, received_by}
use Rattle.can_node_rules.specs.Pieces.Place.{AtReset, AtIntegration, AtIdle, AfterSof}
use Rattle.can_node_rules.specs.Pieces.Place.{AtLastEofBit, AtFlag, AtDelimiter, AtInterframeSpace}
use Rattle.can_node_rules.specs.Pieces.Piece.{Integration, IdleBit, Reception, Transmission, Fault, LastEofBit, Flag}
use Rattle.can_node_rules.specs.Pieces.Piece.{Delimiter, InterframeSpace, InterframeSpaceWithSof, InterframeSpaceBroken}
use Rattle.can_node_rules.specs.Counting.{lost_by, at_bit}
use Rattle.can_node_rules.specs.Effects.{closed}

-- after a bit its piece goes on, or it is finished and leads to another place
pub data Step : Type 0 where
  Within : Step
  Finishes : Piece → Place → Step

-- the context after a bit; c is the one right before it, and done are the bits of its piece before it
abbrev pub stepped : Step → ContextValue → Place → List Bit → Bit → ContextValue
stepped Within c place done b = at_bit c place done b
stepped (Finishes piece next) c place done b = closed piece next (at_bit c place done b)

-- the frame that is valid from this bit on (Bosch CAN 2.0 part A section 4)
abbrev pub received_in : Step → Option FrameValue
received_in Within = None
received_in (Finishes piece next) = received_by piece

-- whether an own frame was sent with this piece, and with this bit
abbrev pub sends_by : Piece → Bool
sends_by (Transmission request) = true
sends_by Integration = false
sends_by IdleBit = false
sends_by (Reception f) = false
sends_by (Fault site cause segment) = false
sends_by LastEofBit = false
sends_by Flag = false
sends_by Delimiter = false
sends_by InterframeSpace = false
sends_by InterframeSpaceWithSof = false
sends_by InterframeSpaceBroken = false

abbrev pub sends_in : Step → Bool
sends_in Within = false
sends_in (Finishes piece next) = sends_by piece

-- the cause of a fault and its segment (SJA1000 data sheet, 6.4.9, error code capture)
abbrev pub fault_by : Piece → Option (Cause × Segment)
fault_by (Fault site cause segment) = Some (cause, segment)
fault_by (Transmission request) = None
fault_by Integration = None
fault_by IdleBit = None
fault_by (Reception f) = None
fault_by LastEofBit = None
fault_by Flag = None
fault_by Delimiter = None
fault_by InterframeSpace = None
fault_by InterframeSpaceWithSof = None
fault_by InterframeSpaceBroken = None

abbrev pub fault_in : Step → Option (Cause × Segment)
fault_in Within = None
fault_in (Finishes piece next) = fault_by piece

-- how a request ended: it is sent, or it was held before the bit and is no more. For one that bus-off drops nothing is
-- told (this project's own rule)
abbrev pub ended_in : Step → ContextValue → ContextValue → Option Outcome
ended_in step before now =
    if nat_le 256 now.tec then None
    else if sends_in step then Some Sent
    else if is_held before.held && not (is_held now.held) then Some Failed
    else None

-- only a transmitter loses arbitration
abbrev pub lost_as : Role → ContextValue → List Level → Bit → Option ℕ
lost_as Transmitter c l b = lost_by c.held l b.driven b.seen
lost_as Receiver c l b = None

-- the place code where arbitration is lost in this bit (SJA1000 data sheet, 6.4.8, arbitration lost capture)
abbrev pub lost_in : ContextValue → Place → List Bit → Bit → Option ℕ
lost_in c AtIdle done b = lost_as c.role c (seen_of done) b
lost_in c AfterSof done b = lost_as c.role c (Dominant ∷ seen_of done) b
lost_in c AtReset done b = None
lost_in c AtIntegration done b = None
lost_in c AtLastEofBit done b = None
lost_in c AtFlag done b = None
lost_in c AtDelimiter done b = None
lost_in c AtInterframeSpace done b = None

-- all that a bit tells. The role is that after the bit; bus-off comes where TEC has come to 256 (Bosch CAN 2.0 part A
-- section 7, rule 10), and is over where it stood before the bit and stands no more (rule 12)
abbrev pub events_of : Step → ContextValue → Place → List Bit → Bit → BitEvents
events_of step c place done b =
    let now = stepped step c place done b in
    record {
      received = received_in step;
      ended = ended_in step c now;
      lost = lost_in c place done b;
      fault = fault_in step;
      receiving = not (is_transmitter now.role);
      went_off = nat_le 256 now.tec;
      recovered = c.off && not now.off;
    }
