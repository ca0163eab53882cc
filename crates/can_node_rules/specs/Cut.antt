-- A record cut into pieces (this project's own rule).
use Rattle.std.specs.Prelude.{◌≡◌, ◌≢◌, ◌<◌, ◌≤◌, List, [], ◌∷◌, ◌++◌, map}
use Rattle.can_levels.specs.declared.level.Level.{Level}
use Rattle.can_node_rules.specs.declared.config.Config.{Config}
use Rattle.can_node_rules.specs.declared.request.Request.{Request}
use Rattle.can_node_rules.specs.Bits.{Bit, recessive_bits}
use Rattle.can_node_rules.specs.Context.{ContextValue, fresh}
use Rattle.can_node_rules.specs.Pieces.{Place, Piece}
use Rattle.can_node_rules.specs.Pieces.Place.{AtReset, AtIntegration}
use Rattle.can_node_rules.specs.Table.{Row}
use Rattle.can_node_rules.specs.Record.{RecordEntry, bits_in, Inner, BeginsInBit, IsSlice}
use Rattle.can_node_rules.specs.Record.RecordEntry.{Start, Stop, OneBit, Send, Abort, BusOff}
pub use Rattle.can_node_rules.specs.FinishedPieces.{Count, none_yet, counted_one, counted, FinishedPiece}
pub use Rattle.can_node_rules.specs.FinishedPieces.{tagged, ReceivedFrame, received_if, received}
use Rattle.can_node_rules.specs.Effects.{with_send, with_abort, with_start, with_stop, with_off, along, after}

-- ---- a piece that isn't finished

-- a front of a piece that may stand there, and less than all of it
pub record IsUnfinished (c : ContextValue) (place : Place) (bits : List Bit) : Type 0 where
  pub piece : Piece
  pub next : Place
  pub more : Bit
  pub rest : List Bit
  pub lawful : Row c place (bits ++ more ∷ rest) piece next

-- less than a piece has come at this place, with these entries from its first bit on
pub data IsOpenAt (c : ContextValue) : Place → List RecordEntry → Type 0 where
  -- in reset: any bits, driven recessive
  rests : (l : List Level) → IsOpenAt c AtReset (map OneBit (recessive_bits l))
  -- no bit of the next piece
  nothing : {place : Place} → IsOpenAt c place []
  -- a front of a piece, with requests and aborts between its bits
  begun : {place : Place} {entries : List RecordEntry} →
      Inner entries → BeginsInBit entries → IsUnfinished c place (bits_in entries) → IsOpenAt c place entries

-- ---- from one place to the next

-- the node is on the bus: TEC is below 256 (Bosch CAN 2.0 part A section 7, rule 10)
abbrev pub IsOnBus : ContextValue → Type 0
IsOnBus c = c.tec < 256

-- what may come next at a place: these entries, with a piece or none, and the context and the place after them
pub data Move (c : ContextValue) : Place → List RecordEntry → List Piece → ContextValue → Place → Type 0 where
  -- a piece, of the table of pieces, with requests and aborts between its bits
  piece : {place next : Place} {p : Piece} (slice : List RecordEntry) →
      IsSlice slice → Row c place (bits_in slice) p next → IsOnBus (after c place slice p next) →
      Move c place slice (p ∷ []) (after c place slice p next) next
  -- a request or an abort between two pieces, not in reset
  sent : {place : Place} (request : Request) → place ≢ AtReset →
      Move c place (Send request ∷ []) [] (with_send request c) place
  aborted : {place : Place} → place ≢ AtReset → Move c place (Abort ∷ []) [] (with_abort place c) place
  -- a start, after any bits in reset
  started : (config : Config) (l : List Level) →
      Move c AtReset (map OneBit (recessive_bits l) ++ Start config ∷ []) [] (with_start config c) AtIntegration
  -- a stop, which may break off a piece
  stopped : {place : Place} (slice : List RecordEntry) → IsOpenAt c place slice → IsOnBus (along c place [] slice) →
      Move c place (slice ++ Stop ∷ []) [] (with_stop (along c place [] slice)) AtReset
  -- bus-off right after the bit in which TEC comes to 256: within a piece, which it breaks off
  off_within : {place : Place} (slice before : List RecordEntry) (last : Bit) →
      slice ≡ before ++ OneBit last ∷ [] → IsOnBus (along c place [] before) →
      IsSlice slice → IsUnfinished c place (bits_in slice) → 256 ≤ (along c place [] slice).tec →
      Move c place (slice ++ BusOff ∷ []) [] (with_off (along c place [] slice)) AtReset
  -- or at the end of a piece
  off_after : {place next : Place} {p : Piece} (slice before : List RecordEntry) (last : Bit) →
      slice ≡ before ++ OneBit last ∷ [] → IsOnBus (along c place [] before) →
      IsSlice slice → Row c place (bits_in slice) p next → 256 ≤ (after c place slice p next).tec →
      Move c place (slice ++ BusOff ∷ []) (p ∷ []) (with_off (after c place slice p next)) AtReset

-- ---- the whole record

-- entries from one place to another: they are moves, and then what is open at the last place. `From` speaks, in this
-- order, of
--   the count of starts and bits before the entries,
--   the context before them, and the place,
--   the entries,
--   the pieces finished in them,
--   the context right before the piece that isn't finished, and its place,
--   the entries of that piece so far.
-- An example: a node starts and sees thirteen recessive levels. The entries `Start config`, and thirteen times
-- `OneBit (recessive_bit Recessive)`, from the beginning on, have this cut:
--   `Start config` is a move from AtReset to AtIntegration, with no piece;
--   the first eleven bits are the piece Integration, finished in activation 1 with bit 11, and lead to AtIdle;
--   each further one is an IdleBit, finished with bit 12 and bit 13, and leads to AtIdle;
--   no entry is left for a piece that isn't finished, and the last place is AtIdle.
pub data From :
    Count → ContextValue → Place → List RecordEntry → List FinishedPiece → ContextValue → Place →
    List RecordEntry → Type 0 where
  -- no piece is finished
  here : {k : Count} {c : ContextValue} {place : Place} {slice : List RecordEntry} →
      IsOpenAt c place slice → IsOnBus (along c place [] slice) → From k c place slice [] c place slice
  -- a move, and then the rest
  on : {k : Count} {c next end : ContextValue} {place site last : Place} {entries more rest : List RecordEntry}
      {ps : List Piece} {qs : List FinishedPiece} →
      Move c place entries ps next site → From (counted k entries) next site more qs end last rest →
      From k c place (entries ++ more) (tagged (counted k entries) ps ++ qs) end last rest

-- the record is cut into these finished pieces, with one perhaps at its end that isn't finished: its place, the context
-- right before it, and its entries so far
pub record IsCut (entries : List RecordEntry) (found : List FinishedPiece) : Type 0 where
  pub context : ContextValue
  pub place : Place
  pub rest : List RecordEntry
  pub from : From none_yet fresh AtReset entries found context place rest
