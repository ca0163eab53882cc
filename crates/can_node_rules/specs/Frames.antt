-- The bits of a frame as its receiver and its transmitter have them (Bosch CAN 2.0 part A sections 3.1.1, 3.1.2 and 6).
-- l are the levels of the frame that a receiver saw before these bits.
use Rattle.std.specs.Prelude.{◌≡◌, ◌≢◌, ◌+◌, ◌≤◌, ℕ, Bool, true, false, Some}
use Rattle.std.specs.Prelude.{None, IsTrue, IsFalse, List, [], ◌∷◌, ◌++◌, length}
use Rattle.can_frame.specs.Frame.{FrameValue}
use Rattle.can_levels.specs.declared.level.Level.{Level}
use Rattle.can_levels.specs.declared.level.Level.TheVariants.{Dominant, Recessive}
use Rattle.can_levels.specs.declared.segment.Segment.{Segment}
use Rattle.can_levels.specs.Body.{sent_body}
use Rattle.can_levels.specs.Check.{Crc}
use Rattle.can_levels.specs.Line.{StuffedPart, Line, tail}
use Rattle.can_levels.specs.Reading.{Begins, IsPastPart}
use Rattle.can_levels.specs.Segments.{IsNext}
use Rattle.can_levels.specs.Streaming.{EndsInWrongCheck}
use Rattle.can_levels.specs.Acknowledging.{IsAckDue}
use Rattle.can_levels.specs.Places.{place_code, is_early_stuff}
use Rattle.can_node_rules.specs.declared.cause.Cause.{Cause}
use Rattle.can_node_rules.specs.declared.cause.Cause.TheVariants.{Bit as BitError, Stuff as StuffError}
use Rattle.can_node_rules.specs.declared.cause.Cause.TheVariants.{Form as FormError, Crc as CheckError, Ack as AckError}
use Rattle.can_node_rules.specs.declared.request.Request.{Request}
use Rattle.can_node_rules.specs.Bits.{Bit, recessive_bit, dominant_bit, seen_of, driven_of}
use Rattle.can_node_rules.specs.Pieces.{Place, Piece}
use Rattle.can_node_rules.specs.Pieces.Place.{AtLastEofBit, AtFlag, AtInterframeSpace}
use Rattle.can_node_rules.specs.declared.fault_site.FaultSite.TheVariants.{InTransmission, InReception}
use Rattle.can_node_rules.specs.Pieces.Piece.{Reception, Transmission, Fault}

-- ---- the ACK slot

-- what a receiver drives after these levels: dominant in the ACK slot of a line whose CRC sequence is right, and there
-- alone (part A section 3.1.1, "ACK field"); a node that only listens drives recessive (SJA1000 data sheet, 6.4.3)
abbrev pub Acknowledges : Bool → List Level → Level → Type 0
Acknowledges true l x = x ≡ Recessive
Acknowledges false l Dominant = IsAckDue l
Acknowledges false l Recessive = IsAckDue l → ⊥

-- a receiver that has seen these levels drives so in each of these bits
abbrev pub AllAcknowledge : Bool → List Level → List Bit → Type 0
AllAcknowledge listen l bits =
    (before after : List Bit) (b : Bit) → bits ≡ before ++ b ∷ after →
    Acknowledges listen (l ++ seen_of before) b.driven

-- the level in the ACK slot: dominant, or where no acknowledgement is needed either one (self test: SJA1000 data sheet,
-- 6.4.3; that a node which only listens receives such frames is this project's own rule)
abbrev pub AckFits : Bool → Level → Type 0
AckFits true ack = Unit {0}
AckFits false ack = ack ≡ Dominant

-- ---- a receiver

-- some line begins with these levels and has at least two more: the next one is before the seventh bit of EOF
pub record IsWithin (l : List Level) : Type 0 where
  pub begun : Begins l
  pub long : 2 ≤ length begun.rest

-- no line goes on with the last of these bits
pub record FitsNoLine (l : List Level) (bits : List Bit) : Type 0 where
  pub before : List Bit
  pub last : Bit
  pub whole : bits ≡ before ++ last ∷ []
  pub none : Begins (l ++ seen_of bits) → ⊥

-- what is wrong with the last of these bits for a receiver (part A section 6.1)
pub data Breaks (l : List Level) : List Bit → Cause → Type 0 where
  -- stuff error: no line goes on with it, in the stuffed part
  stuff : {bits : List Bit} (wrong : FitsNoLine l bits) → ¬ IsPastPart (l ++ seen_of wrong.before) →
      Breaks l bits StuffError
  -- form error: the same after the stuffed part
  form : {bits : List Bit} (wrong : FitsNoLine l bits) → IsPastPart (l ++ seen_of wrong.before) →
      Breaks l bits FormError
  -- CRC error: it is the ACK delimiter after a wrong CRC sequence (part A section 6.2)
  check : {bits : List Bit} (before : List Bit) →
      bits ≡ before ++ recessive_bit Recessive ∷ [] → EndsInWrongCheck (l ++ seen_of before) → Breaks l bits CheckError
  -- bit error: its own acknowledgement isn't seen (this project's own rule)
  own_ack : {bits : List Bit} (before : List Bit) →
      bits ≡ before ++ dominant_bit Recessive ∷ [] → Breaks l bits BitError

-- a receiver's fault: the shortest list of a kind above, before the seventh bit of EOF; with the segment of its last
-- bit
pub record BreaksOff (listen : Bool) (l : List Level) (bits : List Bit) (cause : Cause) (segment : Segment) :
    Type 0 where
  pub answers : AllAcknowledge listen l bits
  pub before : List Bit
  pub last : Bit
  pub whole : bits ≡ before ++ last ∷ []
  pub early : IsWithin (l ++ seen_of before)
  pub breaks : Breaks l bits cause
  pub first : (front rest : List Bit) (other : Cause) → bits ≡ front ++ rest → Breaks l front other → rest ≡ []
  pub stuff_bit : Bool
  pub site : IsNext (l ++ seen_of before) segment stuff_bit

-- a received frame: its levels, with one recessive level more, are a line of it with a right CRC sequence, and are
-- acknowledged. So the last of them is the sixth bit of EOF, with which the frame is valid (part A section 4)
pub record IsReception (listen : Bool) (l : List Level) (bits : List Bit) (f : FrameValue) : Type 0 where
  pub answers : AllAcknowledge listen l bits
  -- body and CRC sequence of the line, and the level in its ACK slot
  pub body : List Level
  pub crc : List Level
  pub ack : Level
  pub line : Line f body crc ack ((l ++ seen_of bits) ++ Recessive ∷ [])
  pub right : Crc body crc
  pub fits : AckFits listen ack

-- a receiver's piece, and the place after it
pub data Receives (listen : Bool) (l : List Level) : List Bit → Piece → Place → Type 0 where
  reception : {bits : List Bit} {f : FrameValue} → IsReception listen l bits f →
      Receives listen l bits (Reception f) AtLastEofBit
  broken : {bits : List Bit} {cause : Cause} {segment : Segment} →
      BreaksOff listen l bits cause segment → Receives listen l bits (Fault InReception cause segment) AtFlag

-- ---- a transmitter

-- part is the stuffed part of the line that a transmitter of f sends, and c its CRC sequence
pub record SentPart (f : FrameValue) (c part : List Level) : Type 0 where
  pub is_part : StuffedPart f (sent_body f) c part
  pub right : Crc (sent_body f) c

-- the bits are a front of the sent line, all seen as driven but the ACK slot, which is acknowledged
pub record GoesWell (self_test : Bool) (part : List Level) (bits : List Bit) : Type 0 where
  pub ack : Level
  pub fits : AckFits self_test ack
  pub rest : List Level
  pub others : List Level
  pub driven : part ++ tail Recessive ≡ driven_of bits ++ rest
  pub seen : part ++ tail ack ≡ seen_of bits ++ others

-- what is wrong with this bit for a transmitter whose line went well before it (part A section 6.1)
pub data Fails (self_test ext : Bool) (part : List Level) (before : List Bit) : Bit → Cause → Type 0 where
  -- ACK error: nobody acknowledges its frame
  no_ack : self_test ≡ false → length before ≡ length part + 1 →
      Fails self_test ext part before (recessive_bit Recessive) AckError
  -- stuff error: its recessive stuff bit before RTR is seen dominant (part A section 7, rule 3, exception 2)
  stuff_bit : IsTrue (is_early_stuff ext (seen_of before)) →
      Fails self_test ext part before (recessive_bit Dominant) StuffError
  -- bit error: its dominant level isn't seen
  unseen : Fails self_test ext part before (dominant_bit Recessive) BitError
  -- bit error: its recessive level is seen dominant, where that is neither an acknowledgement nor lost arbitration
  overdriven : length before ≢ length part + 1 → IsFalse (is_early_stuff ext (seen_of before)) →
      place_code ext (seen_of before) ≡ None → Fails self_test ext part before (recessive_bit Dominant) BitError

-- a frame that is sent: the whole sent line, seen as driven but in the ACK slot (part A sections 3.1.1 and 4)
pub record IsSending (self_test : Bool) (request : Request) (bits : List Bit) : Type 0 where
  pub crc : List Level
  pub part : List Level
  pub is_part : SentPart request.frame crc part
  pub ack : Level
  pub fits : AckFits self_test ack
  pub driven : driven_of bits ≡ part ++ tail Recessive
  pub seen : seen_of bits ≡ part ++ tail ack

-- a transmitter's fault: a front of the sent line that goes well up to its last bit; with the segment of that bit
pub record IsFailure (self_test : Bool) (request : Request) (bits : List Bit) (cause : Cause) (segment : Segment) :
    Type 0 where
  pub crc : List Level
  pub part : List Level
  pub is_part : SentPart request.frame crc part
  pub before : List Bit
  pub last : Bit
  pub whole : bits ≡ before ++ last ∷ []
  pub well : GoesWell self_test part before
  -- the last bit is driven as the line has it
  pub rest : List Level
  pub driven : part ++ tail Recessive ≡ driven_of bits ++ rest
  pub fails : Fails self_test request.frame.ext part before last cause
  pub stuff_bit : Bool
  pub site : IsNext (seen_of before) segment stuff_bit

-- a front of the sent line goes well up to a bit in which arbitration is lost: there the transmitter drives recessive
-- and sees dominant, in the arbitration field and at no stuff bit. It goes on as receiver of the same frame (part A
-- section 3.1.1)
pub record IsLoss (self_test : Bool) (request : Request) (bits : List Bit) (piece : Piece) (next : Place) : Type 0 where
  pub crc : List Level
  pub part : List Level
  pub is_part : SentPart request.frame crc part
  pub before : List Bit
  pub more : List Bit
  pub whole : bits ≡ before ++ recessive_bit Dominant ∷ more
  pub well : GoesWell self_test part before
  pub rest : List Level
  pub driven : part ++ tail Recessive ≡ (driven_of before ++ Recessive ∷ []) ++ rest
  pub code : ℕ
  pub loses : place_code request.frame.ext (seen_of before) ≡ Some code
  pub goes_on : Receives false (seen_of before ++ Dominant ∷ []) more piece next

-- a transmitter's piece, from SOF on, and the place after it
pub data Transmits (self_test : Bool) (request : Request) : List Bit → Piece → Place → Type 0 where
  sending : {bits : List Bit} → IsSending self_test request bits →
      Transmits self_test request bits (Transmission request) AtInterframeSpace
  failed : {bits : List Bit} {cause : Cause} {segment : Segment} →
      IsFailure self_test request bits cause segment →
      Transmits self_test request bits (Fault InTransmission cause segment) AtFlag
  lost : {bits : List Bit} {piece : Piece} {next : Place} →
      IsLoss self_test request bits piece next → Transmits self_test request bits piece next
