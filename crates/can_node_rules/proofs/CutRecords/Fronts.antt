-- A record that has a cut has one without its last entry too, where that is a start, a stop, a request or an abort.
use Rattle.std.proofs.Common.{◌≡◌, inl, inr, Bool, true, false, None, List, [], ◌∷◌, ◌++◌, map, refl, sym, ap, ◌∙◌}
use Rattle.std.proofs.Common.{subst, arith, append_assoc, append-nil, if◌then◌else◌}
use Rattle.std.proofs.lemmas.List.{same_from_push}
use Rattle.lemmas.proofs.Lists.{last_of}
use Rattle.can_levels.specs.declared.level.Level.{Level}
use Rattle.can_node_rules.specs.Bits.{Bit, recessive_bit, recessive_bits}
use Rattle.can_node_rules.specs.Context.{ContextValue}
use Rattle.can_node_rules.specs.Cut.{IsUnfinished, IsOpenAt, IsOnBus, Move, From, IsCut}
use Rattle.can_node_rules.specs.Cut.IsOpenAt.{rests, nothing, begun}
use Rattle.can_node_rules.specs.Cut.Move.{piece, sent, aborted, started, stopped, off_within, off_after}
use Rattle.can_node_rules.specs.Cut.From.{here, on}
use Rattle.can_node_rules.specs.Effects.{along, is_in_progress}
use Rattle.can_node_rules.specs.FinishedPieces.{FinishedPiece, Count, counted, tagged}
use Rattle.can_node_rules.specs.Pieces.{Place, Piece}
use Rattle.can_node_rules.specs.Record.{RecordEntry, bits_in, Inner, BeginsInBit}
use Rattle.can_node_rules.specs.Record.RecordEntry.{Start, Stop, OneBit, Send, Abort, BusOff}
use Rattle.can_node_rules.specs.Record.Inner.{none_left, samples, sends, aborts}
use Rattle.can_node_rules.proofs.Machine.Along.{along_both, bits_both}
use Rattle.can_node_rules.proofs.OneCut.Resets.{along_rest, start_stays}
use Rattle.can_node_rules.proofs.OneCut.Entries.{some_not_none}
use Rattle.can_node_rules.specs.BetweenBits.{IsBetweenBits}

no_bit : (e : RecordEntry) (b : Bit) → IsBetweenBits e → e ≡ OneBit b → ⊥
no_bit e b other is = subst IsBetweenBits is other

no_off : (e : RecordEntry) → IsBetweenBits e → e ≡ BusOff → ⊥
no_off e other is = subst IsBetweenBits is other

other_bits : (e : RecordEntry) → IsBetweenBits e → bits_in (e ∷ []) ≡ []
other_bits (Start config) other = refl
other_bits Stop other = refl
other_bits (Send request) other = refl
other_bits Abort other = refl
other_bits (OneBit b) other = absurd other
other_bits BusOff other = absurd other

-- ---- the node stays on the bus

marked_tec : (t : Bool) (c : ContextValue) →
    (if t then record c { aborted = true } else record c { held = None }).tec ≡ c.tec
marked_tec true c = refl
marked_tec false c = refl

other_tec : (c : ContextValue) (place : Place) (done : List Bit) (e : RecordEntry) → IsBetweenBits e →
    (along c place done (e ∷ [])).tec ≡ c.tec
other_tec c place done (Start config) other = refl
other_tec c place done Stop other = refl
other_tec c place done (Send request) other = refl
other_tec c place done Abort other = marked_tec (is_in_progress c place) c
other_tec c place done (OneBit b) other = absurd other
other_tec c place done BusOff other = absurd other

move_stays : {c next : ContextValue} {place site : Place} {entries : List RecordEntry} {ps : List Piece} →
    Move c place entries ps next site → IsOnBus c → IsOnBus next
move_stays (piece slice is row stays) h = stays
move_stays (sent request away) h = h
move_stays {c = c} {place = place} (aborted away) h =
    let same = marked_tec (is_in_progress c place) c in omega (arith, same, h)
move_stays {c = c} (started config l) h = start_stays config c h
move_stays (stopped slice opened stays) h = stays
move_stays (off_within slice before b whole stays is unfinished full) h = omega arith
move_stays (off_after slice before b whole stays is row full) h = omega arith

-- ---- what is open

pub reset_last : (l : List Level) (entries : List RecordEntry) (e : RecordEntry) → IsBetweenBits e →
    map OneBit (recessive_bits l) ≡ entries ++ e ∷ [] → ⊥
reset_last [] [] e other same = cc
reset_last [] (x ∷ entries) e other same = cc
reset_last (y ∷ l) [] e other same =
    let is : e ≡ OneBit (recessive_bit y) = cc in no_bit e (recessive_bit y) other is
reset_last (y ∷ l) (x ∷ entries) e other same =
    let rest : map OneBit (recessive_bits l) ≡ entries ++ e ∷ [] = cc in reset_last l entries e other rest

inner_front : (a b : List RecordEntry) → Inner (a ++ b) → Inner a
inner_front [] b h = none_left
inner_front (OneBit x ∷ a) b (samples _ h) = samples x (inner_front a b h)
inner_front (Send request ∷ a) b (sends _ h) = sends request (inner_front a b h)
inner_front (Abort ∷ a) b (aborts h) = aborts (inner_front a b h)
inner_front (Start _ ∷ a) b h = elim h [ ]
inner_front (Stop ∷ a) b h = elim h [ ]
inner_front (BusOff ∷ a) b h = elim h [ ]

begins_front : (entries : List RecordEntry) (e : RecordEntry) → IsBetweenBits e → BeginsInBit (entries ++ e ∷ []) →
    BeginsInBit entries
begins_front [] e other h =
    let is : e ≡ OneBit h.bit = (let w = h.whole in cc) in absurd (no_bit e h.bit other is)
begins_front (x ∷ entries) e other h =
    let is : x ≡ OneBit h.bit = (let w = h.whole in cc) in
    record { bit = h.bit; rest = entries; whole = ap (λ v. v ∷ entries) is }

open_front : {c : ContextValue} {place : Place} {all : List RecordEntry} (entries : List RecordEntry)
    (e : RecordEntry) → IsBetweenBits e → IsOpenAt c place all → all ≡ entries ++ e ∷ [] → IsOpenAt c place entries
open_front entries e other (rests l) same = absurd (reset_last l entries e other same)
open_front entries e other nothing same = absurd (some_not_none entries e [] (sym same))
open_front {c = c} {place = place} {all = all} entries e other (begun inner begins unfinished) same =
    let bits : bits_in all ≡ bits_in entries =
    ap bits_in same ∙ bits_both entries (e ∷ []) ∙ ap (λ l. bits_in entries ++ l) (other_bits e other)
    ∙ append-nil (bits_in entries) in
    let P : List Bit → Type 0 = λ l. IsUnfinished c place l in
    begun (inner_front entries (e ∷ []) (subst Inner same inner))
    (begins_front entries e other (subst BeginsInBit same begins)) (subst P bits unfinished)

-- ---- the record

-- entries from a place on have a cut
record HasFront (k : Count) (c : ContextValue) (place : Place) (entries : List RecordEntry) : Type 0 where
  found : List FinishedPiece
  end : ContextValue
  last : Place
  rest : List RecordEntry
  from : From k c place entries found end last rest

open_has : {c : ContextValue} {place : Place} (k : Count) (slice entries : List RecordEntry) → IsOpenAt c place slice →
    IsOnBus (along c place [] slice) → slice ≡ entries → HasFront k c place entries
open_has {c = c} {place = place} k slice entries opened stays same =
    let P : List RecordEntry → Type 0 = λ l. HasFront k c place l in
    subst P same (record { found = []; end = c; last = place; rest = slice; from = here opened stays })

move_front : {c next : ContextValue} {place site : Place} {first : List RecordEntry} {ps : List Piece} (k : Count)
    (entries : List RecordEntry) (e : RecordEntry) → IsBetweenBits e → IsOnBus c → Move c place first ps next site →
    first ≡ entries ++ e ∷ [] → HasFront k c place entries
move_front k entries e other stays (piece slice is row after) same =
    let is_bit = (same_from_push is.ends.before entries (OneBit is.ends.bit) e (sym is.ends.whole ∙ same)).1 in
    absurd (no_bit e is.ends.bit other (sym is_bit))
move_front k entries e other stays (sent request away) same =
    open_has k [] entries nothing stays (same_from_push [] entries (Send request) e same).0
move_front k entries e other stays (aborted away) same =
    open_has k [] entries nothing stays (same_from_push [] entries Abort e same).0
move_front {c = c} k entries e other stays (started config l) same =
    let P : ContextValue → Type 0 = λ d. IsOnBus d in
    let kept = subst P (sym (along_rest c [] (recessive_bits l))) stays in
    open_has k (map OneBit (recessive_bits l)) entries (rests l) kept
    (same_from_push (map OneBit (recessive_bits l)) entries (Start config) e same).0
move_front k entries e other stays (stopped slice opened on_bus) same =
    open_has k slice entries opened on_bus (same_from_push slice entries Stop e same).0
move_front k entries e other stays (off_within slice before b whole on_bus is unfinished full) same =
    absurd (no_off e other (sym (same_from_push slice entries BusOff e same).1))
move_front k entries e other stays (off_after slice before b whole on_bus is row full) same =
    absurd (no_off e other (sym (same_from_push slice entries BusOff e same).1))

front_from : {k : Count} {c end : ContextValue} {place last : Place} {all rest : List RecordEntry}
    {found : List FinishedPiece} (entries : List RecordEntry) (e : RecordEntry) → IsBetweenBits e → IsOnBus c →
    From k c place all found end last rest → all ≡ entries ++ e ∷ [] → HasFront k c place entries
front_from {k = k} {c = c} {place = place} {all = all} entries e other stays (here opened on_bus) same =
    let whole : along c place [] all ≡ along (along c place [] entries) place (bits_in entries) (e ∷ []) =
    ap (λ l. along c place [] l) same ∙ along_both c place [] entries (e ∷ []) in
    let tec : (along c place [] all).tec ≡ (along c place [] entries).tec =
    ap (λ (d : ContextValue). d.tec) whole
    ∙ other_tec (along c place [] entries) place (bits_in entries) e other in
    open_has k entries entries (open_front entries e other opened same) (omega (arith, tec, on_bus)) refl
front_from {k = k} {c = c} {place = place} entries e other stays
    (on {next = next} {site = site} {entries = first} {more = more} {ps = ps} move from) same =
    elim (last_of more) [
      | inl none ↦ move_front k entries e other stays move
          (sym (ap (λ l. first ++ l) none ∙ append-nil first) ∙ same)
      | inr some ↦
          let whole : (first ++ some.0) ++ some.1 ∷ [] ≡ entries ++ e ∷ [] =
          append_assoc first some.0 (some.1 ∷ []) ∙ ap (λ l. first ++ l) (sym some.2) ∙ same in
          let parts = same_from_push (first ++ some.0) entries some.1 e whole in
          let h = front_from some.0 e other (move_stays move stays) from
          (some.2 ∙ ap (λ x. some.0 ++ x ∷ []) parts.1) in
          let P : List RecordEntry → Type 0 = λ l. HasFront k c place l in
          subst P parts.0 (record {
            found = tagged (counted k first) ps ++ h.found;
            end = h.end;
            last = h.last;
            rest = h.rest;
            from = on move h.from;
          })
    ]

pub cut_front : (entries : List RecordEntry) (e : RecordEntry) (others : List FinishedPiece) → IsBetweenBits e →
    IsCut (entries ++ e ∷ []) others → (found : List FinishedPiece) × IsCut entries found
cut_front entries e others other k =
    let h = front_from entries e other (omega arith) k.from refl in
    (h.found, record { context = h.end; place = h.last; rest = h.rest; from = h.from })
