-- Where a start and a request come in a record that has a cut: in reset, and out of it.
use Rattle.std.proofs.Common.{◌≡◌, ◌≢◌, inl, inr, List, [], ◌∷◌, ◌++◌, map, refl, sym, ap, subst}
use Rattle.can_node_rules.specs.declared.config.Config.{Config}
use Rattle.can_node_rules.specs.declared.phase.Phase.TheVariants.{Reset}
use Rattle.can_node_rules.specs.declared.request.Request.{Request}
use Rattle.can_node_rules.specs.Bits.{recessive_bits}
use Rattle.can_node_rules.specs.Context.{ContextValue, fresh}
use Rattle.can_node_rules.specs.Cut.{IsOpenAt, Move, From, IsCut}
use Rattle.can_node_rules.specs.Cut.IsOpenAt.{rests, nothing, begun}
use Rattle.can_node_rules.specs.Cut.Move.{piece, sent, aborted, started, stopped, off_within, off_after}
use Rattle.can_node_rules.specs.Cut.From.{here, on}
use Rattle.can_node_rules.specs.Driving.{phase_at}
use Rattle.can_node_rules.specs.FinishedPieces.{FinishedPiece, Count, none_yet}
use Rattle.can_node_rules.specs.NextBit.{open_bits, phase_in}
use Rattle.can_node_rules.specs.Pieces.{Place, Piece}
use Rattle.can_node_rules.specs.Pieces.Place.{AtReset}
use Rattle.can_node_rules.specs.Record.{RecordEntry, bits_in}
use Rattle.can_node_rules.specs.Record.RecordEntry.{Start, Stop, OneBit, Send, Abort, BusOff}
use Rattle.can_node_rules.specs.Table.{Row}
use Rattle.can_node_rules.proofs.CutRecords.Fronts.{reset_last}
use Rattle.can_node_rules.proofs.OneCut.CutOnce.{move_or_open}
use Rattle.can_node_rules.proofs.OneCut.Entries.{open_part, outer_not_within, some_not_none, whole_or_front, last_is}
use Rattle.can_node_rules.proofs.OneCut.Entries.IsOuter.{start}
use Rattle.can_node_rules.proofs.OneCut.GoOn.{open_end, no_rest_piece}
use Rattle.can_node_rules.proofs.OneCut.Through.{goes_through}

-- ---- a start comes in reset

start_at : {c next : ContextValue} {place site : Place} {first : List RecordEntry} {ps : List Piece}
    (slice : List RecordEntry) (config : Config) → Move c place first ps next site →
    first ≡ slice ++ Start config ∷ [] →
    place ≡ AtReset
start_at slice config (piece s is row stays) w =
    let x = last_is is.ends.before slice (OneBit is.ends.bit) (Start config) s is.ends.whole w in absurd cc
start_at slice config (sent request away) w =
    let x = last_is [] slice (Send request) (Start config) (Send request ∷ []) refl w in absurd cc
start_at slice config (aborted away) w =
    let x = last_is [] slice Abort (Start config) (Abort ∷ []) refl w in absurd cc
start_at slice config (started other l) w = refl
start_at slice config (stopped s opened stays) w =
    let x = last_is s slice Stop (Start config) (s ++ Stop ∷ []) refl w in absurd cc
start_at slice config (off_within s before b whole stays is unfinished full) w =
    let x = last_is s slice BusOff (Start config) (s ++ BusOff ∷ []) refl w in absurd cc
start_at slice config (off_after s before b whole stays is row full) w =
    let x = last_is s slice BusOff (Start config) (s ++ BusOff ∷ []) refl w in absurd cc

start_from : {k : Count} {c end : ContextValue} {place last : Place} {all rest : List RecordEntry}
    {found : List FinishedPiece} (slice : List RecordEntry) (config : Config) →
    From k c place all found end last rest → all ≡ slice ++ Start config ∷ [] → IsOpenAt c place slice → place ≡ AtReset
start_from {all = all} slice config (here opened stays) e o =
    absurd (outer_not_within slice all [] (Start config) (start config) (open_part opened).inner e)
start_from {c = c} {place = place} slice config
    (on {next = next} {site = site} {entries = first} {more = more} {ps = ps} move from) e o =
    elim (whole_or_front first more slice (Start config) e) [
      | inl front ↦ absurd (move_or_open c next place site first slice front.0 ps move o front.1)
      | inr both ↦ start_at slice config move both.0
    ]

pub start_resets : (entries : List RecordEntry) (config : Config) (found others : List FinishedPiece)
    (h : IsCut entries found) → IsCut (entries ++ Start config ∷ []) others → phase_in h ≡ Reset
start_resets entries config found others h k =
    let t = goes_through none_yet fresh h.context k.context AtReset h.place k.place entries
    (entries ++ Start config ∷ []) h.rest (Start config ∷ []) k.rest found others h.from k.from refl in
    ap (λ (s : Place). phase_at s (open_bits h)) (start_from h.rest config t.from refl (open_end h.from))

-- ---- a request comes out of reset

send_at : {c next : ContextValue} {place site : Place} {first : List RecordEntry} {ps : List Piece}
    (slice : List RecordEntry) (request : Request) → Move c place first ps next site →
    first ≡ slice ++ Send request ∷ [] → place ≢ AtReset
send_at slice request (piece s is row stays) w =
    let x = last_is is.ends.before slice (OneBit is.ends.bit) (Send request) s is.ends.whole w in absurd cc
send_at slice request (sent other away) w = away
send_at slice request (aborted away) w = away
send_at slice request (started config l) w =
    let x = last_is (map OneBit (recessive_bits l)) slice (Start config) (Send request) _ refl w in absurd cc
send_at slice request (stopped s opened stays) w =
    let x = last_is s slice Stop (Send request) (s ++ Stop ∷ []) refl w in absurd cc
send_at slice request (off_within s before b whole stays is unfinished full) w =
    let x = last_is s slice BusOff (Send request) (s ++ BusOff ∷ []) refl w in absurd cc
send_at slice request (off_after s before b whole stays is row full) w =
    let x = last_is s slice BusOff (Send request) (s ++ BusOff ∷ []) refl w in absurd cc

send_open : {c : ContextValue} {place : Place} {all : List RecordEntry} (slice : List RecordEntry) (request : Request) →
    IsOpenAt c place all → all ≡ slice ++ Send request ∷ [] → place ≢ AtReset
send_open slice request (rests l) e = absurd (reset_last l slice (Send request) tt e)
send_open slice request nothing e = absurd (some_not_none slice (Send request) [] (sym e))
send_open {c = c} {all = all} slice request (begun inner begins u) e = λ at.
    let P : Place → Type 0 = λ s. Row c s (bits_in all ++ u.more ∷ u.rest) u.piece u.next in
    no_rest_piece (subst P at u.lawful)

send_from : {k : Count} {c end : ContextValue} {place last : Place} {all rest : List RecordEntry}
    {found : List FinishedPiece} (slice : List RecordEntry) (request : Request) →
    From k c place all found end last rest → all ≡ slice ++ Send request ∷ [] → IsOpenAt c place slice → place ≢ AtReset
send_from slice request (here opened stays) e o = send_open slice request opened e
send_from {c = c} {place = place} slice request
    (on {next = next} {site = site} {entries = first} {more = more} {ps = ps} move from) e o =
    elim (whole_or_front first more slice (Send request) e) [
      | inl front ↦ absurd (move_or_open c next place site first slice front.0 ps move o front.1)
      | inr both ↦ send_at slice request move both.0
    ]

pub send_away : (entries : List RecordEntry) (request : Request) (found others : List FinishedPiece)
    (h : IsCut entries found) → IsCut (entries ++ Send request ∷ []) others → h.place ≢ AtReset
send_away entries request found others h k =
    let t = goes_through none_yet fresh h.context k.context AtReset h.place k.place entries
    (entries ++ Send request ∷ []) h.rest (Send request ∷ []) k.rest found others h.from k.from refl in
    send_from h.rest request t.from refl (open_end h.from)
