-- The moves in three groups: a piece; a request or an abort between pieces; and what ends with a start, a stop or
-- bus-off.
use Rattle.std.proofs.Common.{◌≤◌, List, [], ◌∷◌, ◌++◌, map}
use Rattle.can_node_rules.specs.declared.config.Config.{Config}
use Rattle.can_node_rules.specs.declared.request.Request.{Request}
use Rattle.can_node_rules.specs.Bits.{recessive_bits}
use Rattle.can_node_rules.specs.Context.{ContextValue}
use Rattle.can_node_rules.specs.Pieces.{Place, Piece}
use Rattle.can_node_rules.specs.Pieces.Place.{AtReset, AtIntegration}
use Rattle.can_node_rules.specs.Record.{RecordEntry, bits_in, IsSlice}
use Rattle.can_node_rules.specs.Record.RecordEntry.{Start, Stop, OneBit, Send, Abort, BusOff}
use Rattle.can_node_rules.specs.Table.{Row}
use Rattle.can_node_rules.specs.Effects.{with_send, with_abort, with_start, with_stop, with_off, along, after}
use Rattle.can_node_rules.specs.Cut.{IsUnfinished, IsOpenAt, IsOnBus, Move}
use Rattle.can_node_rules.specs.Cut.IsOpenAt.{rests}
use Rattle.can_node_rules.specs.Cut.Move.{piece, sent, aborted, started, stopped, off_within, off_after}
use Rattle.can_node_rules.proofs.OneCut.Entries.{IsOuter, IsPart, open_part, slice_part}
use Rattle.can_node_rules.proofs.OneCut.Entries.IsOuter.{start, stop, off}

-- a request or an abort, and the context after it
pub data Between (c : ContextValue) (place : Place) : RecordEntry → ContextValue → Type 0 where
  send : (request : Request) → Between c place (Send request) (with_send request c)
  abort : Between c place Abort (with_abort place c)

-- after this slice a start, a stop or bus-off, with a piece or none, and the context and the place after it
pub data Closing (c : ContextValue) (slice : List RecordEntry) : Place → RecordEntry →
    List Piece → ContextValue → Place →
    Type 0 where
  by_start : (config : Config) → Closing c slice AtReset (Start config) [] (with_start config c) AtIntegration
  by_stop : {place : Place} → IsOpenAt c place slice →
      Closing c slice place Stop [] (with_stop (along c place [] slice)) AtReset
  by_off : {place : Place} → IsUnfinished c place (bits_in slice) →
      Closing c slice place BusOff [] (with_off (along c place [] slice)) AtReset
  by_off_after : {place next : Place} {p : Piece} → IsSlice slice → Row c place (bits_in slice) p next →
      256 ≤ (after c place slice p next).tec →
      Closing c slice place BusOff (p ∷ []) (with_off (after c place slice p next)) AtReset

-- a move by its group
pub data Way (c : ContextValue) : Place → List RecordEntry → List Piece → ContextValue → Place → Type 0 where
  finishes : {place next : Place} {p : Piece} (slice : List RecordEntry) →
      IsSlice slice → Row c place (bits_in slice) p next → IsOnBus (after c place slice p next) →
      Way c place slice (p ∷ []) (after c place slice p next) next
  comes : {place : Place} {next : ContextValue} (entry : RecordEntry) → Between c place entry next →
      Way c place (entry ∷ []) [] next place
  closes : {place site : Place} {next : ContextValue} {ps : List Piece} (slice : List RecordEntry)
      (entry : RecordEntry) →
      IsPart slice → IsOuter entry → Closing c slice place entry ps next site →
      Way c place (slice ++ entry ∷ []) ps next site

-- each move is of one of these groups
pub way_of : {c next : ContextValue} {place site : Place} {entries : List RecordEntry} {ps : List Piece} →
    Move c place entries ps next site → Way c place entries ps next site
way_of (piece slice is_slice row stays) = finishes slice is_slice row stays
way_of (sent request away) = comes (Send request) (send request)
way_of (aborted away) = comes Abort abort
way_of {c = c} (started config l) =
    closes (map OneBit (recessive_bits l)) (Start config) (open_part {c = c} (rests l)) (start config) (by_start config)
way_of (stopped slice opened stays) = closes slice Stop (open_part opened) stop (by_stop opened)
way_of (off_within slice before last whole stays is_slice unfinished full) =
    closes slice BusOff (slice_part is_slice) off (by_off unfinished)
way_of (off_after slice before last whole stays is_slice row full) =
    closes slice BusOff (slice_part is_slice) off (by_off_after is_slice row full)
