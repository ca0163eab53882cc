-- After a bit a record has bus-off next or not: no cut is of both.
use Rattle.std.proofs.Common.{◌≡◌, inl, inr, Bool, true, false, List, [], ◌∷◌, ◌++◌, map, refl, sym, ap, ◌∙◌}
use Rattle.std.proofs.Common.{subst, arith, append_assoc, append-nil, if◌then◌else◌}
use Rattle.std.proofs.lemmas.List.{same_from_push}
use Rattle.can_node_rules.specs.declared.bit_events.BitEvents.{BitEvents}
use Rattle.can_node_rules.specs.Bits.{Bit, recessive_bits}
use Rattle.can_node_rules.specs.Context.{ContextValue, fresh}
use Rattle.can_node_rules.specs.Pieces.{Place, Piece}
use Rattle.can_node_rules.specs.Pieces.Place.{AtReset}
use Rattle.can_node_rules.specs.Record.{RecordEntry}
use Rattle.can_node_rules.specs.Record.RecordEntry.{Start, Stop, OneBit, Send, Abort, BusOff}
use Rattle.can_node_rules.specs.Effects.{along}
use Rattle.can_node_rules.specs.FinishedPieces.{FinishedPiece, Count, none_yet}
use Rattle.can_node_rules.specs.Cut.{IsOpenAt, IsOnBus, Move, From, IsCut}
use Rattle.can_node_rules.specs.Cut.Move.{piece, sent, aborted, started, stopped, off_within, off_after}
use Rattle.can_node_rules.specs.Cut.From.{here, on}
use Rattle.can_node_rules.specs.Outcomes.{entries_of}
use Rattle.can_node_rules.proofs.OneCut.CutOnce.{move_or_open}
use Rattle.can_node_rules.proofs.OneCut.Entries.{open_part, outer_not_within, whole_or_front, last_is}
use Rattle.can_node_rules.proofs.OneCut.Entries.IsOuter.{off}
use Rattle.can_node_rules.proofs.OneCut.GoOn.{open_end, stays_end}
use Rattle.can_node_rules.proofs.OneCut.MoveOnce.{open_no_piece}
use Rattle.can_node_rules.proofs.OneCut.Through.{goes_through}

-- no move is bus-off after what is open, where the node is on the bus
no_off : {c next : ContextValue} {place site : Place} {first : List RecordEntry} {ps : List Piece}
    (slice : List RecordEntry) → Move c place first ps next site → first ≡ slice ++ BusOff ∷ [] →
    IsOpenAt c place slice → IsOnBus (along c place [] slice) → ⊥
no_off slice (piece s is row stays) w o bus =
    let x = last_is is.ends.before slice (OneBit is.ends.bit) BusOff s is.ends.whole w in cc
no_off slice (sent request away) w o bus =
    let x = last_is [] slice (Send request) BusOff (Send request ∷ []) refl w in cc
no_off slice (aborted away) w o bus = let x = last_is [] slice Abort BusOff (Abort ∷ []) refl w in cc
no_off slice (started config l) w o bus =
    let x = last_is (map OneBit (recessive_bits l)) slice (Start config) BusOff _ refl w in cc
no_off slice (stopped s opened stays) w o bus = let x = last_is s slice Stop BusOff (s ++ Stop ∷ []) refl w in cc
no_off {c = c} {place = place} slice (off_within s before b whole stays is unfinished full) w o bus =
    let same = ap (λ (l : List RecordEntry). (along c place [] l).tec) (same_from_push s slice BusOff BusOff w).0 in
    omega (arith, same, full, bus)
no_off {c = c} {place = place} slice (off_after {next = n} {p = p} s before b whole stays is row full) w o bus =
    open_no_piece c place n p s slice [] is.begins row
    (sym (same_from_push s slice BusOff BusOff w).0 ∙ sym (append-nil s)) o

off_from : {k : Count} {c end : ContextValue} {place last : Place} {entries rest : List RecordEntry}
    {found : List FinishedPiece} (slice : List RecordEntry) → From k c place entries found end last rest →
    entries ≡ slice ++ BusOff ∷ [] → IsOpenAt c place slice → IsOnBus (along c place [] slice) → ⊥
off_from {entries = entries} slice (here opened stays) e o bus =
    outer_not_within slice entries [] BusOff off (open_part opened).inner e
off_from {c = c} {place = place} slice
    (on {next = next} {site = site} {entries = first} {more = more} {ps = ps} move from) e o bus =
    elim (whole_or_front first more slice BusOff e) [
      | inl front ↦ move_or_open c next place site first slice front.0 ps move o front.1
      | inr both ↦ no_off slice move both.0 o bus
    ]

-- a record that has a cut has none with bus-off after it
pub off_or_on : (entries : List RecordEntry) (found others : List FinishedPiece) → IsCut entries found →
    IsCut (entries ++ BusOff ∷ []) others → ⊥
off_or_on entries found others h k =
    let t = goes_through none_yet fresh h.context k.context AtReset h.place k.place entries (entries ++ BusOff ∷ [])
    h.rest (BusOff ∷ []) k.rest found others h.from k.from refl in
    off_from h.rest t.from refl (open_end h.from) (stays_end h.from)

-- so a bit leads to bus-off or doesn't
pub went_once : (r : List RecordEntry) (b : Bit) (e f : BitEvents) (found others : List FinishedPiece) →
    IsCut (r ++ entries_of b e) found → IsCut (r ++ entries_of b f) others → e.went_off ≡ f.went_off
went_once r b e f found others h k = by e.went_off f.went_off h k
  where
    by : (x y : Bool) → IsCut (r ++ (if x then OneBit b ∷ BusOff ∷ [] else OneBit b ∷ [])) found →
        IsCut (r ++ (if y then OneBit b ∷ BusOff ∷ [] else OneBit b ∷ [])) others → x ≡ y
    by true true h k = refl
    by false false h k = refl
    by true false h k =
        let P : List RecordEntry → Type 0 = λ l. IsCut l found in
        absurd (off_or_on (r ++ OneBit b ∷ []) others found k
        (subst P (sym (append_assoc r (OneBit b ∷ []) (BusOff ∷ []))) h))
    by false true h k =
        let P : List RecordEntry → Type 0 = λ l. IsCut l others in
        absurd (off_or_on (r ++ OneBit b ∷ []) found others h
        (subst P (sym (append_assoc r (OneBit b ∷ []) (BusOff ∷ []))) k))
