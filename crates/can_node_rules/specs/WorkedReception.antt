-- A record worked by hand, with its finished pieces: a node starts, waits for eleven recessive levels, receives the
-- frame of another node and acknowledges it (by Bosch CAN 2.0 part A section 3.1 and ISO 11898-1).
use Rattle.std.specs.Prelude.{None, false, List, [], ◌∷◌, ◌++◌, map, replicate}
use Rattle.can_frame.specs.Frame.{FrameValue}
use Rattle.can_levels.specs.declared.level.Level.{Level}
use Rattle.can_levels.specs.declared.level.Level.TheVariants.{Dominant, Recessive}
use Rattle.can_node_rules.specs.declared.config.Config.{Config}
use Rattle.can_node_rules.specs.Bits.{Bit, recessive_bit, dominant_bit, recessive_bits}
use Rattle.can_node_rules.specs.Pieces.Piece.{Integration, Reception, LastEofBit, InterframeSpace}
use Rattle.can_node_rules.specs.Record.{RecordEntry}
use Rattle.can_node_rules.specs.Record.RecordEntry.{Start, OneBit}
use Rattle.can_node_rules.specs.FinishedPieces.{FinishedPiece, ReceivedFrame}

-- the standard data frame with the identifier 0 and no bytes
abbrev pub zero_frame : FrameValue
zero_frame = record { ext = false; id = 0; rtr = false; dlc = 0; bytes = [] }

-- five dominant levels and the stuff bit after them
abbrev pub five : List Level
five = Dominant ∷ Dominant ∷ Dominant ∷ Dominant ∷ Dominant ∷ Recessive ∷ []

-- the stuffed part of its line after SOF: 33 dominant levels, of identifier, RTR, IDE, r0, DLC and CRC sequence, with
-- six stuff bits
abbrev pub after_sof : List Level
after_sof =
    Dominant ∷ Dominant ∷ Dominant ∷ Dominant ∷ Recessive
    ∷ (five ++ (five ++ (five ++ (five ++ (five ++ replicate 4 Dominant)))))

-- the bits after SOF, up to the sixth of EOF: CRC delimiter, its own acknowledgement in the ACK slot, ACK delimiter,
-- EOF
abbrev pub answered : List Bit
answered =
    recessive_bits after_sof
    ++ (recessive_bit Recessive ∷ dominant_bit Dominant ∷ recessive_bits (replicate 7 Recessive))

-- the record: the seventh bit of EOF and intermission follow
abbrev pub record_of_reception : Config → List RecordEntry
record_of_reception config =
    Start (record config { listen = false; self_test = false; tec = None; rec = None })
    ∷ map OneBit (recessive_bits (replicate 11 Recessive)
    ++ ((recessive_bit Dominant ∷ answered) ++ recessive_bits (replicate 4 Recessive)))

-- its finished pieces, with activation and bit count
abbrev pub pieces_of_reception : List FinishedPiece
pieces_of_reception =
    (record { piece = Integration; activation = 1; bits = 11 })
    ∷ (record { piece = Reception zero_frame; activation = 1; bits = 60 })
    ∷ (record { piece = LastEofBit; activation = 1; bits = 61 })
    ∷ (record { piece = InterframeSpace; activation = 1; bits = 64 })
    ∷ []

-- the frame is received in the sixth bit of EOF, the record's 60th
abbrev pub frames_of_reception : List ReceivedFrame
frames_of_reception = (record { frame = zero_frame; activation = 1; bits = 60 }) ∷ []
