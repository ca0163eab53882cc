-- Finished pieces of a record, and the frames received in them (this project's own rule).
use Rattle.std.specs.Prelude.{◌+◌, ℕ, Option, Some, None, List, [], ◌∷◌}
use Rattle.can_frame.specs.Frame.{FrameValue}
use Rattle.can_node_rules.specs.Pieces.{Piece, received_by}
use Rattle.can_node_rules.specs.Record.{RecordEntry}
use Rattle.can_node_rules.specs.Record.RecordEntry.{Start, Stop, OneBit, Send, Abort, BusOff}

-- ---- counts

-- how many starts and how many bits came so far
pub record Count : Type 0 where
  pub starts : ℕ
  pub bits : ℕ

-- nothing came yet
abbrev pub none_yet : Count
none_yet = record { starts = 0; bits = 0 }

-- the count after an entry more
abbrev pub counted_one : Count → RecordEntry → Count
counted_one k (OneBit b) = record k { bits = k.bits + 1 }
counted_one k (Start config) = record k { starts = k.starts + 1 }
counted_one k (Send request) = k
counted_one k Abort = k
counted_one k Stop = k
counted_one k BusOff = k

-- the count after several
abbrev pub counted : Count → List RecordEntry → Count
counted k [] = k
counted k (entry ∷ entries) = counted (counted_one k entry) entries

-- ---- pieces

-- a finished piece, with its activation (the number of starts before its end) and the number of bits up to its end
pub record FinishedPiece : Type 0 where
  pub piece : Piece
  pub activation : ℕ
  pub bits : ℕ

-- pieces that end after so many starts and bits
abbrev pub tagged : Count → List Piece → List FinishedPiece
tagged k [] = []
tagged k (p ∷ ps) = (record { piece = p; activation = k.starts; bits = k.bits }) ∷ tagged k ps

-- ---- received frames

-- a received frame, with its activation and the number of bits up to the end of its piece
pub record ReceivedFrame : Type 0 where
  pub frame : FrameValue
  pub activation : ℕ
  pub bits : ℕ

-- the frame that a finished piece receives, if it receives one, before the frames of later pieces
abbrev pub received_if : Option FrameValue → FinishedPiece → List ReceivedFrame → List ReceivedFrame
received_if None found more = more
received_if (Some f) found more = (record { frame = f; activation = found.activation; bits = found.bits }) ∷ more

-- the frames received in these pieces, in order
abbrev pub received : List FinishedPiece → List ReceivedFrame
received [] = []
received (found ∷ more) = received_if (received_by found.piece) found (received more)
