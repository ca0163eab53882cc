-- What a bit makes of the piece under way.
use Rattle.can_node_rules.specs.declared.request.Request.{Request}
use Rattle.can_node.specs.declared.node.Node.{Node}
use Rattle.can_bits.specs.Shifts.{StandsFor}
use Rattle.can_node.specs.Standing.{context_of, HasBody}
use Rattle.can_node_rules.specs.KeptContexts.{IsKept}
use Rattle.can_node_rules.specs.Driving.{Drives, TransmitsNext}
use Rattle.can_node_rules.specs.Frames.{Acknowledges}
use Rattle.std.specs.Prelude.{◌≡◌, ◌+◌, ℕ, Bool, nat_le, nat_lt, true, false}
use Rattle.std.specs.Prelude.{if◌then◌else◌, List, [], ◌∷◌, ◌++◌, is_some, Some}
use Rattle.can_bits.specs.declared.shift.Shift.{Shift}
use Rattle.can_node.specs.declared.ending.Ending.{Ending}
use Rattle.can_node.specs.declared.ending.Ending.TheVariants.{Integration as EndingIntegration}
use Rattle.can_node.specs.declared.ending.Ending.TheVariants.{IdleBit as EndingIdleBit, Received, Sent}
use Rattle.can_node.specs.declared.ending.Ending.TheVariants.{Fault as EndingFault, LastEofBit as EndingLastEofBit}
use Rattle.can_node.specs.declared.ending.Ending.TheVariants.{Flag as EndingFlag, Delimiter as EndingDelimiter}
use Rattle.can_node.specs.declared.ending.Ending.TheVariants.{InterframeSpace as EndingInterframeSpace, Sof, Overload}
use Rattle.can_node.specs.declared.overload_condition.OverloadCondition.{OverloadCondition}
use Rattle.can_node.specs.declared.overload_condition.OverloadCondition.TheVariants.{Intermission}
use Rattle.can_node.specs.declared.overload_condition.OverloadCondition.TheVariants.{LastDelimiterBit}
use Rattle.can_node.specs.declared.overload_condition.OverloadCondition.TheVariants.{LastEofBit as LastEof}
use Rattle.can_levels.specs.declared.level.Level.{Level}
use Rattle.can_levels.specs.declared.level.Level.TheVariants.{Dominant, Recessive}
use Rattle.can_node.specs.declared.after_bit.AfterBit.{AfterBit}
use Rattle.can_node.specs.declared.after_bit.AfterBit.TheVariants.{InPiece, Ended}
use Rattle.can_node.specs.declared.stage.Stage.TheVariants.{InFrame as StageInFrame, InFlag as StageInFlag}
use Rattle.can_node_rules.specs.Bits.{Bit, seen_of}
use Rattle.can_node_rules.specs.Context.{ContextValue}
use Rattle.can_node_rules.specs.Pieces.{Place, Piece}
use Rattle.can_node_rules.specs.Pieces.Place.{AtIdle, AfterSof, AtLastEofBit, AtFlag, AtDelimiter, AtInterframeSpace}
use Rattle.can_node_rules.specs.Pieces.Piece.{Integration, IdleBit, Reception, Transmission, Fault, LastEofBit, Flag}
use Rattle.can_node_rules.specs.Pieces.Piece.{Delimiter, InterframeSpace, InterframeSpaceWithSof, InterframeSpaceBroken}
use Rattle.can_node_rules.specs.Table.{Row}
use Rattle.can_node_rules.specs.Counting.{at_bit, lost_by}
use Rattle.can_node_rules.specs.Effects.{closed, with_off}
use Rattle.can_node.specs.declared.stage.Stage.{Stage}
use Rattle.can_node_rules.specs.Events.{Step, lost_in}
use Rattle.can_node_rules.specs.Events.Step.{Within, Finishes}
use Rattle.can_node.specs.Stages.{At}
use Rattle.can_node_rules.specs.UnfinishedPieces.{IsReceiving, IsTransmitting, IsFramePlace, frame_bits}

-- the piece that ended with an overload condition
abbrev pub overloaded : OverloadCondition → Piece
overloaded Intermission = InterframeSpaceBroken
overloaded LastDelimiterBit = Delimiter
overloaded LastEof = LastEofBit

-- the piece that ended
abbrev pub piece_of : Ending → Piece
piece_of EndingIntegration = Integration
piece_of EndingIdleBit = IdleBit
piece_of (Received frame) = Reception frame
piece_of (Sent request) = Transmission request
piece_of (EndingFault site cause segment) = Fault site cause segment
piece_of EndingLastEofBit = LastEofBit
piece_of EndingFlag = Flag
piece_of EndingDelimiter = Delimiter
piece_of EndingInterframeSpace = InterframeSpace
piece_of Sof = InterframeSpaceWithSof
piece_of (Overload condition) = overloaded condition

-- the place to which it leads
abbrev pub next_of : Ending → Place
next_of EndingIntegration = AtIdle
next_of EndingIdleBit = AtIdle
next_of (Received frame) = AtLastEofBit
next_of (Sent request) = AtInterframeSpace
next_of (EndingFault site cause segment) = AtFlag
next_of EndingLastEofBit = AtInterframeSpace
next_of EndingFlag = AtDelimiter
next_of EndingDelimiter = AtInterframeSpace
next_of EndingInterframeSpace = AtIdle
next_of Sof = AfterSof
next_of (Overload condition) = AtFlag

-- what the seventh bit of EOF of a received frame makes of it
abbrev pub after_last_eof : Level → AfterBit
after_last_eof Dominant = Ended (Overload LastEof)
after_last_eof Recessive = Ended EndingLastEofBit

-- what one more of so many equal levels makes of a flag: with six it ends
abbrev pub one_more : ℕ → Level → AfterBit
one_more n x = if nat_lt n 5 then InPiece (StageInFlag (n + 1) x) else Ended EndingFlag

-- the step of the cut
abbrev pub step_of : AfterBit → Step
step_of (InPiece stage) = Within
step_of (Ended ending) = Finishes (piece_of ending) (next_of ending)

-- what a bit made of the piece under way, of which these bits have come: the node stands in it, or they are the piece
abbrev pub IsMade : Shift → ContextValue → ContextValue → Place → List Bit → AfterBit → Type 0
IsMade shift c now place bits (InPiece stage) = At stage shift c now place bits
IsMade shift c now place bits (Ended ending) = Row c place bits (piece_of ending) (next_of ending)

-- what this bit makes of it
abbrev pub IsTurn : Shift → ContextValue → ContextValue → Place → List Bit → Bit → AfterBit → Type 0
IsTurn shift c now place bits b turn = IsMade shift c (at_bit now place bits b) place (bits ++ b ∷ []) turn

-- the context after it, from the one after the steps of the bit
abbrev pub resulted : AfterBit → ContextValue → ContextValue
resulted (InPiece stage) c = c
resulted (Ended ending) c = closed (piece_of ending) (next_of ending) c

-- where the node stands after it: in the piece under way, with these bits of it, or at the beginning of the next place
abbrev pub AtAfter : AfterBit → Stage → Shift → ContextValue → ContextValue → Place → List Bit → Type 0
AtAfter (InPiece going) stage shift c now place bits = At stage shift c now place bits
AtAfter (Ended ending) stage shift c now place bits = At stage shift now now (next_of ending) []

-- bus-off, where the transmit error counter has come to 256
abbrev pub off_if : ContextValue → ContextValue
off_if c = if nat_le 256 c.tec then with_off c else c

-- a bit of a frame for its receiver: it goes on as receiver, or these bits are the piece
abbrev pub ReceivesOn : ContextValue → Place → List Bit → AfterBit → Type 0
ReceivesOn c place bits (InPiece stage) = (stage ≡ StageInFrame) × IsReceiving c place bits
ReceivesOn c place bits (Ended ending) = Row c place bits (piece_of ending) (next_of ending)

-- a bit of a frame for its transmitter, which lost arbitration in it or not
abbrev pub GoesOnAs : Bool → ContextValue → ContextValue → Place → List Bit → Type 0
GoesOnAs true c now place bits = IsReceiving c place bits
GoesOnAs false c now place bits = IsTransmitting c now place bits

abbrev pub TransmitsOn : Bool → ContextValue → ContextValue → Place → List Bit → AfterBit → Type 0
TransmitsOn lost c now place bits (InPiece stage) = (stage ≡ StageInFrame) × GoesOnAs lost c now place bits
TransmitsOn lost c now place bits (Ended ending) = (lost ≡ false) × Row c place bits (piece_of ending) (next_of ending)

-- what a receiver's bit makes of a frame for which this reader stands, wherever it is
abbrev pub ReceivesBit : Shift → Level → Level → AfterBit → Type 0
ReceivesBit shift driven seen turn =
    (c : ContextValue) (place : Place) (bits : List Bit) → StandsFor shift (seen_of (frame_bits place bits)) →
    IsReceiving c place bits → Acknowledges c.listen (seen_of (frame_bits place bits)) driven →
    ReceivesOn c place (bits ++ record { driven = driven; seen = seen } ∷ []) turn

-- the same of a bit of this request's transmitter, in self test or not, who loses arbitration in it or not
abbrev pub TransmitsBit : Shift → Request → Bool → Bool → Level → Level → AfterBit → Type 0
TransmitsBit shift request self_test lost driven seen turn =
    (c now : ContextValue) (place : Place) (bits : List Bit) → StandsFor shift (seen_of (frame_bits place bits)) →
    IsFramePlace place → self_test ≡ c.self_test → (h : IsTransmitting c now place bits) → request ≡ h.request →
    TransmitsNext h.request (frame_bits place bits) driven →
    lost ≡ is_some (lost_by (Some h.request) (seen_of (frame_bits place bits)) driven seen) →
    TransmitsOn lost c now place (bits ++ record { driven = driven; seen = seen } ∷ []) turn

-- what a bit makes of a piece, wherever in it the node stands by this fact
abbrev pub TurnsFrom : (ContextValue → Place → List Bit → Type 0) → Node → Shift → Level → Level → Bool → AfterBit →
    Type 0
TurnsFrom Stood node shift driven seen lost turn =
    (c : ContextValue) (place : Place) (bits : List Bit) → Stood c place bits →
    IsKept place c (context_of node.context) →
    HasBody node.context node.body → Drives (context_of node.context) place bits driven →
    lost ≡ is_some (lost_in (context_of node.context) place bits (record { driven = driven; seen = seen })) →
    IsTurn shift c (context_of node.context) place bits (record { driven = driven; seen = seen }) turn
