-- The pieces into which a record is cut, and the places where they stand (this project's own way to say what the
-- sources say of frames; the source of each stands beside it).
use Rattle.std.specs.Prelude.{if◌then◌else◌, Option, Some, None}
use Rattle.can_frame.specs.Frame.{FrameValue}
use Rattle.can_levels.specs.declared.segment.Segment.{Segment}
use Rattle.can_node_rules.specs.declared.cause.Cause.{Cause}
use Rattle.can_node_rules.specs.declared.fault_site.FaultSite.{FaultSite}
use Rattle.can_node_rules.specs.declared.request.Request.{Request}
use Rattle.can_node_rules.specs.Context.{ContextValue, is_transmitter}

-- the places where a piece may stand. "Part A" is Bosch CAN 2.0 part A
pub data Place : Type 0 where
  -- in reset: stopped, or bus-off (SJA1000 data sheet, 6.4.3, reset mode)
  AtReset : Place
  -- the node waits for the bus after a start (ISO 11898-1, bus integration; part A section 7, rule 12)
  AtIntegration : Place
  -- the bus is idle, and a frame may begin with its SOF (part A section 3.1.5, "Bus idle")
  AtIdle : Place
  -- a frame began: its SOF was the last bit of interframe space (ISO 11898-1)
  AfterSof : Place
  -- before the seventh bit of EOF of a received frame (part A section 4)
  AtLastEofBit : Place
  -- an error frame or overload frame begins: its flag is due (part A sections 3.1.3 and 3.1.4)
  AtFlag : Place
  -- after such a flag (the same)
  AtDelimiter : Place
  -- after a frame or a delimiter (part A section 3.1.5)
  AtInterframeSpace : Place

-- the pieces
pub data Piece : Type 0 where
  -- bus integration after a start (ISO 11898-1; part A section 7, rule 12)
  Integration : Piece
  -- a recessive bit of an idle bus (part A section 3.1.5)
  IdleBit : Piece
  -- a frame of another node, up to the sixth bit of EOF, with which it is valid (part A sections 3.1.1, 3.1.2 and 4)
  Reception : FrameValue → Piece
  -- an own frame, up to the last bit of EOF, with which it is valid (the same)
  Transmission : Request → Piece
  -- what came of a frame, flag or delimiter up to an error, with the bit of the error (part A section 6)
  Fault : FaultSite → Cause → Segment → Piece
  -- the seventh bit of EOF of a received frame (part A section 4)
  LastEofBit : Piece
  -- an error flag or overload flag (part A sections 3.1.3 and 3.1.4)
  Flag : Piece
  -- an error delimiter or overload delimiter, with the dominant levels of others' flags before it (the same)
  Delimiter : Piece
  -- intermission, and suspend transmission where it is owed (part A section 3.1.5)
  InterframeSpace : Piece
  -- the same with the SOF of a frame as its last bit (ISO 11898-1)
  InterframeSpaceWithSof : Piece
  -- the same broken off by an overload condition (part A section 3.1.4)
  InterframeSpaceBroken : Piece

-- the request whose frame the node sends at this place, if a frame begins or goes on there; a node that only listens
-- sends none (SJA1000 data sheet, 6.4.3)
abbrev pub sent_at : ContextValue → Place → Option Request
sent_at c AtIdle = if c.listen then None else c.held
sent_at c AfterSof = if is_transmitter c.role then c.held else None
sent_at c AtReset = None
sent_at c AtIntegration = None
sent_at c AtLastEofBit = None
sent_at c AtFlag = None
sent_at c AtDelimiter = None
sent_at c AtInterframeSpace = None

-- the frame that a piece receives: another node's, or an own one that was to be received too (SJA1000 data sheet,
-- 6.4.4, self reception request)
abbrev pub received_by : Piece → Option FrameValue
received_by (Reception f) = Some f
received_by (Transmission request) = if request.self_receive then Some request.frame else None
received_by Integration = None
received_by IdleBit = None
received_by (Fault site cause segment) = None
received_by LastEofBit = None
received_by Flag = None
received_by Delimiter = None
received_by InterframeSpace = None
received_by InterframeSpaceWithSof = None
received_by InterframeSpaceBroken = None
