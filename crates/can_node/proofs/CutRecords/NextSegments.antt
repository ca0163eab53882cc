-- The segment of a node's next bit, by the cut of its record: there is one, or none where no frame is under way.
use Rattle.std.proofs.Common.{◌≡◌, ◌⊎◌, ◌-◌, inl, inr, Bool, true, false, Option, Some, None, List, [], ◌∷◌, ◌++◌}
use Rattle.std.proofs.Common.{length, reverse, nat_le, refl, sym, ap, ◌∙◌, subst, append_assoc, append-nil}
use Rattle.std.proofs.lemmas.Bool.{cases_Bool, le-leb, leb-true}
use Rattle.std.proofs.lemmas.List.{reverse-reverse}
use Rattle.can_levels.specs.declared.level.Level.{Level}
use Rattle.can_levels.specs.declared.level.Level.TheVariants.{Dominant, Recessive}
use Rattle.can_levels.specs.declared.segment.Segment.{Segment}
use Rattle.can_levels.specs.declared.segment.Segment.TheVariants.{EndOfFrame}
use Rattle.can_levels.specs.Line.{StuffedPart, tail}
use Rattle.can_levels.specs.Reading.{Begins}
use Rattle.can_levels.specs.Segments.{IsNext, segment_after, segment_at}
use Rattle.can_levels.specs.Segments.IsNext.{bit, stuff_bit, after_part}
use Rattle.can_levels.specs.Stuffing.{EndsInEqual, IsUnstuffed}
use Rattle.can_levels.proofs.Ending.{begins_front}
use Rattle.can_levels.proofs.Runs.{run, ends_in_run, run_ends}
use Rattle.can_levels.proofs.Stuffs.{unstuffed, is_unstuffed}
use Rattle.can_frame.specs.Frame.{FrameValue}
use Rattle.can_node_rules.specs.declared.request.Request.{Request}
use Rattle.can_node_rules.specs.Bits.{Bit, dominant_bit, recessive_bit, seen_of}
use Rattle.can_node_rules.specs.Context.{ContextValue, fresh}
use Rattle.can_node_rules.specs.Cut.{IsOpenAt, IsUnfinished}
use Rattle.can_node_rules.specs.Cut.IsOpenAt.{nothing, begun}
use Rattle.can_node_rules.specs.Frames.{Receives, Transmits}
use Rattle.can_node_rules.specs.Frames.Receives.{reception, broken}
use Rattle.can_node_rules.specs.Frames.Transmits.{sending, failed, lost}
use Rattle.can_node.specs.NextField.{IsInSegment, SegmentAt}
use Rattle.can_node_rules.specs.Pieces.{Piece, Place}
use Rattle.can_node_rules.specs.Pieces.Place.{AtReset, AtIntegration, AtIdle, AfterSof, AtLastEofBit, AtFlag}
use Rattle.can_node_rules.specs.Pieces.Place.{AtDelimiter}
use Rattle.can_node_rules.specs.Pieces.Place.{AtInterframeSpace}
use Rattle.can_node_rules.specs.Record.{RecordEntry, bits_in}
use Rattle.can_node_rules.specs.Table.{Row}
use Rattle.can_node_rules.specs.Table.Row.{idle, other, own, other_begun, own_begun}
use Rattle.can_node_rules.proofs.Bits.Seen.{seen-append}
use Rattle.can_node_rules.proofs.OneCut.Entries.{some_not_none}
use Rattle.can_node_rules.proofs.Reception.Beginnings.{receives_after_sof}
use Rattle.can_node_rules.proofs.Reception.Breaking.{past_or_not}
use Rattle.can_node_rules.proofs.Reception.ReceiverBits.{receiving_readable}
use Rattle.lemmas.proofs.Lists.{append-cancel, fronts}
use Rattle.can_node_rules.proofs.Driven.OwnFrames.{before_last}

-- ---- the segment of the level after levels with which a line begins

ends_or_not : (l : List Level) → EndsInEqual 5 l ⊎ (EndsInEqual 5 l → ⊥)
ends_or_not l =
    let P : List Level → Type 0 = λ m. EndsInEqual 5 m in
    elim (cases_Bool (nat_le 5 (run (reverse l)))) [
      | inl many ↦ inl (subst P (reverse-reverse l) (run_ends 5 (reverse l) (leb-true 5 (run (reverse l)) many)))
      | inr few ↦ inr (λ five.
          let many = le-leb 5 (run (reverse l)) (ends_in_run 4 (reverse l) (subst P (sym (reverse-reverse l)) five)) in
          let no : true ≡ false = sym many ∙ few in cc)
    ]

next_there : (l : List Level) → Begins l → (s : Segment) × (stuffed : Bool) × IsNext l s stuffed
next_there l begins =
    let P : List Level → Type 0 = λ m. IsUnstuffed (reverse (unstuffed (reverse l))) m in
    let w = reverse (unstuffed (reverse l)) in
    let plain = subst P (reverse-reverse l) (is_unstuffed (reverse l)) in
    elim (past_or_not l begins) [
      | inl past ↦ (segment_after (length past.rest), false, after_part past.part past.rest past.is_part past.whole)
      | inr inside ↦ elim (ends_or_not l) [
        | inl five ↦ (segment_at w (length w - 1), true, stuff_bit w plain five inside)
        | inr fewer ↦ (segment_at w (length w), false, bit w plain fewer inside)
      ]
    ]

shown_there : (l : List Level) → Begins l → (s : Option Segment) × IsInSegment l s
shown_there l begins =
    let n = next_there l begins in
    (Some n.0, record { segment = n.0; some = refl; stuff_bit = n.1; next = n.2 })

-- ---- what a node has seen of a frame under way

line_begins : {f : FrameValue} {b c part : List Level} (ack : Level) (l rest : List Level) → StuffedPart f b c part →
    part ++ tail ack ≡ l ++ rest → Begins l
line_begins {f = f} {b = b} {c = c} {part = part} ack l rest is_part whole = record {
  frame = f;
  body = b;
  check = c;
  ack = ack;
  rest = rest;
  line = record { part = part; is_part = is_part; whole = sym whole };
}

-- a front of bits was seen before what came after it
seen_before : (l : List Level) (m y : List Bit) → Begins (l ++ seen_of (m ++ y)) → Begins (l ++ seen_of m)
seen_before l m y begins =
    let P : List Level → Type 0 = λ x. Begins x in
    begins_front (l ++ seen_of m) (seen_of y)
    (subst P (ap (λ x. l ++ x) (seen-append m y) ∙ sym (append_assoc l (seen_of m) (seen_of y))) begins)

-- a receiver, before the last bit of its piece
receives_begins : (listen : Bool) (l : List Level) (all m rest : List Bit) (b : Bit) (p : Piece) (n : Place) →
    Receives listen l all p n → all ≡ m ++ b ∷ rest → Begins (l ++ seen_of m)
receives_begins listen l all m rest b p n (reception {f = f} k) e =
    let P : List Bit → Type 0 = λ x. Begins (l ++ seen_of x) in
    seen_before l m (b ∷ rest) (subst P e (line_begins k.ack (l ++ seen_of all) (Recessive ∷ []) k.line.is_part
    (sym k.line.whole)))
receives_begins listen l all m rest b p n (broken k) e =
    let y = before_last m rest k.before b k.last (sym e ∙ k.whole) in
    let P : List Bit → Type 0 = λ x. Begins (l ++ seen_of x) in
    seen_before l m y.0 (subst P y.1 k.early.begun)

-- a transmitter too
well_begins : {f : FrameValue} {b c part : List Level} (ack : Level) (others : List Level) (before m y : List Bit) →
    StuffedPart f b c part → part ++ tail ack ≡ seen_of before ++ others → before ≡ m ++ y → Begins (seen_of m)
well_begins ack others before m y is_part seen e =
    let P : List Bit → Type 0 = λ x. Begins (seen_of x) in
    seen_before [] m y (subst P e (line_begins ack (seen_of before) others is_part seen))

transmits_begins : (st : Bool) (r : Request) (all m rest : List Bit) (b : Bit) (p : Piece) (n : Place) →
    Transmits st r all p n → all ≡ m ++ b ∷ rest → Begins (seen_of m)
transmits_begins st r all m rest b p n (sending k) e =
    well_begins k.ack [] all m (b ∷ rest) k.is_part.is_part (sym k.seen ∙ sym (append-nil (seen_of all))) e
transmits_begins st r all m rest b p n (failed k) e =
    let y = before_last m rest k.before b k.last (sym e ∙ k.whole) in
    well_begins k.well.ack k.well.others k.before m y.0 k.is_part.is_part k.well.seen y.1
transmits_begins st r all m rest b p n (lost k) e =
    elim (fronts m k.before (b ∷ rest) (recessive_bit Dominant ∷ k.more) whole) [
      | inl longer ↦
          well_begins k.well.ack k.well.others k.before m longer.0 k.is_part.is_part k.well.seen longer.1
      | inr shorter ↦ later shorter.0 shorter.1
          (append-cancel k.before (shorter.0 ++ b ∷ rest) (recessive_bit Dominant ∷ k.more)
          (sym (append_assoc k.before shorter.0 (b ∷ rest)) ∙ ap (λ l. l ++ b ∷ rest) (sym shorter.1) ∙ whole))
    ]
  where
    whole : m ++ b ∷ rest ≡ k.before ++ recessive_bit Dominant ∷ k.more
    whole = sym e ∙ k.whole

    later : (y : List Bit) → m ≡ k.before ++ y → y ++ b ∷ rest ≡ recessive_bit Dominant ∷ k.more → Begins (seen_of m)
    later [] split after =
        well_begins k.well.ack k.well.others k.before m [] k.is_part.is_part k.well.seen
        (sym (append-nil k.before) ∙ sym split ∙ sym (append-nil m))
    later (u ∷ y) split after =
        let is : u ≡ recessive_bit Dominant = cc in
        let behind : k.more ≡ y ++ b ∷ rest = cc in
        let here : m ≡ k.before ++ recessive_bit Dominant ∷ y = split ∙ ap (λ v. k.before ++ v ∷ y) is in
        let seen : (seen_of k.before ++ Dominant ∷ []) ++ seen_of y ≡ seen_of m =
        append_assoc (seen_of k.before) (Dominant ∷ []) (seen_of y)
        ∙ sym (seen-append k.before (recessive_bit Dominant ∷ y)) ∙ ap (λ (l : List Bit). seen_of l) (sym here) in
        let P : List Level → Type 0 = λ l. Begins l in
        subst P seen
        (receives_begins false (seen_of k.before ++ Dominant ∷ []) k.more y rest b p n k.goes_on behind)

-- ---- by the piece that isn't finished

-- on a bus that was idle
idle_begins : (c : ContextValue) (d : Bit) (m all rest : List Bit) (b : Bit) (p : Piece) (n : Place) →
    Row c AtIdle all p n → all ≡ d ∷ (m ++ b ∷ rest) → Begins (seen_of (d ∷ m))
idle_begins c d m all rest b p n (idle none) e =
    let no : m ++ b ∷ rest ≡ [] = cc in absurd (some_not_none m b rest no)
idle_begins c d m all rest b p n (other {bits = l} none h) e =
    let first : d ≡ recessive_bit Dominant = cc in
    let whole : l ≡ m ++ b ∷ rest = cc in
    let P : Bit → Type 0 = λ v. Begins (seen_of (v ∷ m)) in
    subst P (sym first) (receives_begins c.listen (Dominant ∷ []) l m rest b p n h whole)
idle_begins c d m all rest b p n (own {request = r} some h) e =
    transmits_begins c.self_test r all (d ∷ m) rest b p n h e

-- after a SOF that ended interframe space
begun_begins : (c : ContextValue) (m all rest : List Bit) (b : Bit) (p : Piece) (n : Place) →
    Row c AfterSof all p n → all ≡ m ++ b ∷ rest → Begins (Dominant ∷ seen_of m)
begun_begins c m all rest b p n (other_begun none h) e =
    receives_begins c.listen (Dominant ∷ []) all m rest b p n h e
begun_begins c m all rest b p n (own_begun {request = r} some h) e =
    transmits_begins c.self_test r (dominant_bit Dominant ∷ all) (dominant_bit Dominant ∷ m) rest b p n h
    (ap (λ l. dominant_bit Dominant ∷ l) e)

idle_segment : (c : ContextValue) (m : List Bit) → IsUnfinished c AtIdle m →
    (s : Option Segment) × SegmentAt AtIdle m s
idle_segment c [] u = (None, refl)
idle_segment c (d ∷ m) u =
    shown_there (seen_of (d ∷ m)) (idle_begins c d m ((d ∷ m) ++ u.more ∷ u.rest) u.rest u.more u.piece u.next u.lawful
    refl)

pub segment_there : (c : ContextValue) (place : Place) (rest : List RecordEntry) → IsOpenAt c place rest →
    (s : Option Segment) × SegmentAt place (bits_in rest) s
segment_there c AtReset rest opened = (None, refl)
segment_there c AtIntegration rest opened = (None, refl)
segment_there c AtIdle rest nothing = (None, refl)
segment_there c AtIdle rest (begun inner begins unfinished) = idle_segment c (bits_in rest) unfinished
segment_there c AfterSof rest nothing =
    shown_there (Dominant ∷ []) (receiving_readable fresh AfterSof [] (receives_after_sof fresh refl)).begun
segment_there c AfterSof rest (begun inner begins unfinished) =
    shown_there (Dominant ∷ seen_of (bits_in rest)) (begun_begins c (bits_in rest)
    (bits_in rest ++ unfinished.more ∷ unfinished.rest) unfinished.rest unfinished.more unfinished.piece unfinished.next
    unfinished.lawful refl)
segment_there c AtLastEofBit rest opened = (Some EndOfFrame, refl)
segment_there c AtFlag rest opened = (None, refl)
segment_there c AtDelimiter rest opened = (None, refl)
segment_there c AtInterframeSpace rest opened = (None, refl)
