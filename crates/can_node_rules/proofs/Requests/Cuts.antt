-- What a start, a request or a stop at the end of a record leaves held, by every cut.
use Rattle.std.proofs.Common.{◌≡◌, true, false, List, [], ◌∷◌, ◌++◌, map, refl, sym, ap, ◌∙◌, inl, inr}
use Rattle.std.specs.Prelude.{Option, Some, None}
use Rattle.can_node_rules.specs.declared.config.Config.{Config}
use Rattle.can_node_rules.specs.declared.phase.Phase.TheVariants.{Reset}
use Rattle.can_node_rules.specs.declared.request.Request.{Request}
use Rattle.can_node_rules.specs.Bits.{recessive_bits}
use Rattle.can_node_rules.specs.Context.{ContextValue, fresh, is_held}
use Rattle.can_node_rules.specs.Pieces.{Place, Piece}
use Rattle.can_node_rules.specs.Pieces.Place.{AtReset}
use Rattle.can_node_rules.specs.Record.{RecordEntry}
use Rattle.can_node_rules.specs.Record.RecordEntry.{Start, Stop, OneBit, Send, Abort, BusOff}
use Rattle.can_node_rules.specs.FinishedPieces.{FinishedPiece, Count, none_yet}
use Rattle.can_node_rules.specs.Effects.{along, keep_first, with_start}
use Rattle.can_node_rules.specs.Cut.{IsOpenAt, Move, From, IsCut}
use Rattle.can_node_rules.specs.Cut.IsOpenAt.{nothing}
use Rattle.can_node_rules.specs.Cut.Move.{piece, sent, aborted, started, stopped, off_within, off_after}
use Rattle.can_node_rules.specs.Cut.From.{here, on}
use Rattle.can_node_rules.specs.Driving.{phase_at}
use Rattle.can_node_rules.specs.NextBit.{now_in, open_bits, phase_in}
use Rattle.can_node_rules.proofs.Machine.Along.{along_both}
use Rattle.can_node_rules.proofs.OneCut.Resets.{along_rest, start_holds}
use Rattle.can_node_rules.proofs.OneCut.CutOnce.{move_or_open}
use Rattle.can_node_rules.proofs.OneCut.Entries.{open_part, outer_not_within, whole_or_front, last_is}
use Rattle.can_node_rules.proofs.OneCut.Entries.IsOuter.{start, stop}
use Rattle.can_node_rules.proofs.OneCut.GoOn.{open_end, rest_open}
use Rattle.can_node_rules.proofs.OneCut.Through.{Through, goes_through}

-- ---- a record without entries

-- the context is the one before it
now_empty : {k : Count} {c end : ContextValue} {place last : Place} {entries rest : List RecordEntry}
    {found : List FinishedPiece} → From k c place entries found end last rest → entries ≡ [] →
    along end last [] rest ≡ c
now_empty {c = c} {place = place} (here opened stays) e = ap (along c place []) e
now_empty {c = c} {place = place} (on {next = next} {site = site} {entries = first} {more = more} {ps = ps} move from)
    e =
    absurd (move_or_open c next place site first [] more ps move nothing (sym e))

-- by every cut of the empty record the context is that of a new node
pub now_first : (found : List FinishedPiece) (cut : IsCut [] found) → now_in cut ≡ fresh
now_first found cut = now_empty cut.from refl

place_empty : {k : Count} {c end : ContextValue} {place last : Place} {entries rest : List RecordEntry}
    {found : List FinishedPiece} → From k c place entries found end last rest → entries ≡ [] → last ≡ place
place_empty (here opened stays) e = refl
place_empty {c = c} {place = place} (on {next = next} {site = site} {entries = first} {more = more} {ps = ps} move from)
    e =
    absurd (move_or_open c next place site first [] more ps move nothing (sym e))

-- and the node is in reset
pub reset_first : (found : List FinishedPiece) (cut : IsCut [] found) → phase_in cut ≡ Reset
reset_first found cut = ap (λ (s : Place). phase_at s (open_bits cut)) (place_empty cut.from refl)

-- no request is held by any cut of the empty record
pub none_held_first : (found : List FinishedPiece) (cut : IsCut [] found) → is_held (now_in cut).held ≡ false
none_held_first found cut = ap (λ (c : ContextValue). is_held c.held) (now_empty cut.from refl)

-- ---- one entry after what is open

-- the context before a start has the request that it leaves
start_keeps : (config : Config) (c : ContextValue) → is_held (with_start config c).held ≡ is_held c.held
start_keeps config c = ap is_held (start_holds config c)

any_sent : (held : Option Request) (request : Request) → is_held (keep_first held request) ≡ true
any_sent None request = refl
any_sent (Some other) request = refl

-- a request leaves one held
sent_from : {k : Count} {c end : ContextValue} {place last : Place} {entries rest : List RecordEntry}
    {found : List FinishedPiece} (slice : List RecordEntry) (request : Request) →
    From k c place entries found end last rest → entries ≡ slice ++ Send request ∷ [] → IsOpenAt c place slice →
    is_held (along end last [] rest).held ≡ true
sent_from {c = c} {place = place} slice request (here opened stays) e open_now =
    ap (λ (l : List RecordEntry). is_held (along c place [] l).held) e
    ∙ ap (λ (d : ContextValue). is_held d.held) (along_both c place [] slice (Send request ∷ []))
    ∙ any_sent (along c place [] slice).held request
sent_from {c = c} {place = place} slice request
    (on {next = next} {site = site} {entries = first} {more = more} {ps = ps} move from) e open_now =
    elim (whole_or_front first more slice (Send request) e) [
      | inl front ↦ absurd (move_or_open c next place site first slice front.0 ps move open_now front.1)
      | inr both ↦ ap (λ (d : ContextValue). is_held d.held) (now_empty from both.1) ∙ by move both.0
    ]
  where
    by : {c next : ContextValue} {place site : Place} {first : List RecordEntry} {ps : List Piece} →
        Move c place first ps next site → first ≡ slice ++ Send request ∷ [] → is_held next.held ≡ true
    by (piece s is row stays) w =
        let x = last_is is.ends.before slice (OneBit is.ends.bit) (Send request) s is.ends.whole w in absurd cc
    by {c = c} (sent other away) w = any_sent c.held other
    by (aborted away) w = let x = last_is [] slice Abort (Send request) (Abort ∷ []) refl w in absurd cc
    by (started config l) w =
        let x = last_is (map OneBit (recessive_bits l)) slice (Start config) (Send request) _ refl w in absurd cc
    by (stopped s opened stays) w = let x = last_is s slice Stop (Send request) (s ++ Stop ∷ []) refl w in absurd cc
    by (off_within s before b whole stays is unfinished full) w =
        let x = last_is s slice BusOff (Send request) (s ++ BusOff ∷ []) refl w in absurd cc
    by (off_after s before b whole stays is row full) w =
        let x = last_is s slice BusOff (Send request) (s ++ BusOff ∷ []) refl w in absurd cc

-- a stop leaves none
stopped_from : {k : Count} {c end : ContextValue} {place last : Place} {entries rest : List RecordEntry}
    {found : List FinishedPiece} (slice : List RecordEntry) →
    From k c place entries found end last rest → entries ≡ slice ++ Stop ∷ [] → IsOpenAt c place slice →
    is_held (along end last [] rest).held ≡ false
stopped_from {entries = entries} slice (here opened stays) e open_now =
    absurd (outer_not_within slice entries [] Stop stop (open_part opened).inner e)
stopped_from {c = c} {place = place} slice
    (on {next = next} {site = site} {entries = first} {more = more} {ps = ps} move from) e open_now =
    elim (whole_or_front first more slice Stop e) [
      | inl front ↦ absurd (move_or_open c next place site first slice front.0 ps move open_now front.1)
      | inr both ↦ ap (λ (d : ContextValue). is_held d.held) (now_empty from both.1) ∙ by move both.0
    ]
  where
    by : {c next : ContextValue} {place site : Place} {first : List RecordEntry} {ps : List Piece} →
        Move c place first ps next site → first ≡ slice ++ Stop ∷ [] → is_held next.held ≡ false
    by (piece s is row stays) w =
        let x = last_is is.ends.before slice (OneBit is.ends.bit) Stop s is.ends.whole w in absurd cc
    by (sent other away) w = let x = last_is [] slice (Send other) Stop (Send other ∷ []) refl w in absurd cc
    by (aborted away) w = let x = last_is [] slice Abort Stop (Abort ∷ []) refl w in absurd cc
    by (started config l) w =
        let x = last_is (map OneBit (recessive_bits l)) slice (Start config) Stop _ refl w in absurd cc
    by (stopped s opened stays) w = refl
    by (off_within s before b whole stays is unfinished full) w = refl
    by (off_after s before b whole stays is row full) w = refl

-- a start leaves what was held
started_from : {k : Count} {c end : ContextValue} {place last : Place} {entries rest : List RecordEntry}
    {found : List FinishedPiece} (slice : List RecordEntry) (config : Config) →
    From k c place entries found end last rest → entries ≡ slice ++ Start config ∷ [] → IsOpenAt c place slice →
    is_held (along end last [] rest).held ≡ is_held (along c place [] slice).held
started_from {entries = entries} slice config (here opened stays) e open_now =
    absurd (outer_not_within slice entries [] (Start config) (start config) (open_part opened).inner e)
started_from {c = c} {place = place} slice config
    (on {next = next} {site = site} {entries = first} {more = more} {ps = ps} move from) e open_now =
    elim (whole_or_front first more slice (Start config) e) [
      | inl front ↦ absurd (move_or_open c next place site first slice front.0 ps move open_now front.1)
      | inr both ↦ ap (λ (d : ContextValue). is_held d.held) (now_empty from both.1) ∙ by move both.0 open_now
    ]
  where
    by : {c next : ContextValue} {place site : Place} {first : List RecordEntry} {ps : List Piece} →
        Move c place first ps next site → first ≡ slice ++ Start config ∷ [] → IsOpenAt c place slice →
        is_held next.held ≡ is_held (along c place [] slice).held
    by (piece s is row stays) w o =
        let x = last_is is.ends.before slice (OneBit is.ends.bit) (Start config) s is.ends.whole w in absurd cc
    by (sent other away) w o =
        let x = last_is [] slice (Send other) (Start config) (Send other ∷ []) refl w in absurd cc
    by (aborted away) w o = let x = last_is [] slice Abort (Start config) (Abort ∷ []) refl w in absurd cc
    by {c = c} (started other l) w o =
        let r = rest_open o in
        start_keeps other c ∙ ap (λ (d : ContextValue). is_held d.held) (sym (along_rest c [] (recessive_bits r.0)))
        ∙ ap (λ (x : List RecordEntry). is_held (along c AtReset [] x).held) (sym r.1)
    by (stopped s opened stays) w o = let x = last_is s slice Stop (Start config) (s ++ Stop ∷ []) refl w in absurd cc
    by (off_within s before b whole stays is unfinished full) w o =
        let x = last_is s slice BusOff (Start config) (s ++ BusOff ∷ []) refl w in absurd cc
    by (off_after s before b whole stays is row full) w o =
        let x = last_is s slice BusOff (Start config) (s ++ BusOff ∷ []) refl w in absurd cc

-- ---- a whole record with an entry more, whose front has this cut

module _ (entries : List RecordEntry) (found others : List FinishedPiece) (h : IsCut entries found) where
  through : (e : RecordEntry) (k : IsCut (entries ++ e ∷ []) others) →
      Through none_yet entries found h.context h.place h.rest (e ∷ []) others k.context k.place k.rest
  through e k =
      goes_through none_yet fresh h.context k.context AtReset h.place k.place entries (entries ++ e ∷ []) h.rest
      (e ∷ [])
      k.rest found others h.from k.from refl

  pub sent_holds : (request : Request) (k : IsCut (entries ++ Send request ∷ []) others) →
      is_held (now_in k).held ≡ true
  sent_holds request k = sent_from h.rest request (through (Send request) k).from refl (open_end h.from)

  pub stopped_holds : (k : IsCut (entries ++ Stop ∷ []) others) → is_held (now_in k).held ≡ false
  stopped_holds k = stopped_from h.rest (through Stop k).from refl (open_end h.from)

  pub started_holds : (config : Config) (k : IsCut (entries ++ Start config ∷ []) others) →
      is_held (now_in k).held ≡ is_held (now_in h).held
  started_holds config k = started_from h.rest config (through (Start config) k).from refl (open_end h.from)
