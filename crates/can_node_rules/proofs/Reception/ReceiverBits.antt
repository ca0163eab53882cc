-- One bit of a frame for its receiver.
use Rattle.std.proofs.Common.{◌≡◌, ◌≢◌, ◌&&◌, not, Bool, true, false, Option, None, Some, List}
use Rattle.std.proofs.Common.{[], ◌∷◌, ◌++◌, length, ap, sym, subst, ◌∙◌, arith, append_assoc}
use Rattle.std.proofs.lemmas.List.{append-nil, nil_from_length}
use Rattle.can_frame.specs.Frame.{FrameValue}
use Rattle.can_levels.specs.declared.level.Level.{Level}
use Rattle.can_levels.specs.declared.level.Level.TheVariants.{Dominant, Recessive}
use Rattle.can_levels.specs.declared.segment.Segment.{Segment}
use Rattle.can_levels.specs.declared.line_fault.LineFault.{LineFault}
use Rattle.can_levels.specs.declared.line_fault.LineFault.TheVariants.{Stuff as StuffFault, Form as FormFault}
use Rattle.can_levels.specs.declared.line_fault.LineFault.TheVariants.{Crc as CheckFault, NoAck, Truncated, Trailing}
use Rattle.can_levels.specs.declared.shift_fault.ShiftFault.{ShiftFault}
use Rattle.can_levels.specs.Fields.{is_recessive}
use Rattle.can_levels.specs.Line.{Line, tail}
use Rattle.can_levels.specs.Segments.{IsNext}
use Rattle.can_levels.specs.Streaming.{IsReadable, IsLineButFor, IsOver, BreaksWith, ShowsFrame}
use Rattle.can_levels.specs.Judgements.{JudgesAt}
use Rattle.can_levels.proofs.Ending.{line_at}
use Rattle.can_levels.proofs.LineLaws.{lines_agree}
use Rattle.can_node_rules.specs.declared.cause.Cause.{Cause}
use Rattle.can_node_rules.specs.declared.cause.Cause.TheVariants.{Bit as BitError}
use Rattle.can_node_rules.specs.declared.fault_site.FaultSite.TheVariants.{InReception}
use Rattle.can_node_rules.specs.Bits.{Bit, dominant_bit, seen_of}
use Rattle.can_node_rules.specs.Causes.{cause_by}
use Rattle.can_node_rules.specs.Context.{ContextValue}
use Rattle.can_node_rules.specs.Pieces.{Place, Piece}
use Rattle.can_node_rules.specs.Pieces.Place.{AtReset, AtIntegration, AtIdle, AfterSof}
use Rattle.can_node_rules.specs.Pieces.Place.{AtLastEofBit, AtFlag, AtDelimiter, AtInterframeSpace}
use Rattle.can_node_rules.specs.Pieces.Piece.{Reception, Fault}
use Rattle.can_node_rules.specs.Frames.{Acknowledges, AllAcknowledge, IsWithin, Breaks, Receives}
use Rattle.can_node_rules.specs.Frames.Breaks.{own_ack}
use Rattle.can_node_rules.specs.Frames.Receives.{broken}
use Rattle.can_node_rules.specs.Table.{Row}
use Rattle.can_node_rules.specs.UnfinishedPieces.{IsReceiving, AllRight, frame_bits}
use Rattle.can_node_rules.proofs.Bits.Seen.{seen-append, seen_on, acknowledges_push}
use Rattle.can_node_rules.proofs.Reception.Breaking.{right_next, breaks_off_now, stuff_breaks, form_breaks}
use Rattle.can_node_rules.proofs.Reception.Breaking.{check_breaks}
use Rattle.can_node_rules.proofs.Reception.Completing.{within_here, receives_now}
use Rattle.can_node_rules.proofs.Reception.Starts.{receiving_begun}

-- what was seen of a frame with one bit more
pub frame_push : (place : Place) (bits : List Bit) (x : Bit) →
    seen_of (frame_bits place (bits ++ x ∷ [])) ≡ seen_of (frame_bits place bits) ++ x.seen ∷ []
frame_push AfterSof bits x = ap (λ m. Dominant ∷ m) (seen-append bits (x ∷ []))
frame_push AtIdle bits x = seen-append bits (x ∷ [])
frame_push AtReset bits x = seen-append bits (x ∷ [])
frame_push AtIntegration bits x = seen-append bits (x ∷ [])
frame_push AtLastEofBit bits x = seen-append bits (x ∷ [])
frame_push AtFlag bits x = seen-append bits (x ∷ [])
frame_push AtDelimiter bits x = seen-append bits (x ∷ [])
frame_push AtInterframeSpace bits x = seen-append bits (x ∷ [])

-- what the receiver saw so far is readable
pub receiving_readable : (c : ContextValue) (place : Place) (bits : List Bit) → IsReceiving c place bits →
    IsReadable (seen_of (frame_bits place bits))
receiving_readable c place bits h = let P : List Level → Type 0 =
    λ m. IsReadable m in subst P (sym h.seen) h.right.readable

-- and has two levels to come
pub receiving_within : (c : ContextValue) (place : Place) (bits : List Bit) → IsReceiving c place bits →
    IsWithin (seen_of (frame_bits place bits))
receiving_within c place bits h = let P : List Level → Type 0 = λ m. IsWithin m in subst P (sym h.seen) h.within

-- what it drives, with one bit more
pub receiving_acknowledges : (c : ContextValue) (place : Place) (bits : List Bit) (x : Bit)
    (h : IsReceiving c place bits) →
    Acknowledges c.listen (seen_of (frame_bits place bits)) x.driven →
    AllAcknowledge c.listen h.levels (h.more ++ x ∷ [])
receiving_acknowledges c place bits x h answers =
    let P : List Level → Type 0 = λ m. Acknowledges c.listen m x.driven in
    acknowledges_push c.listen h.levels h.more x h.answers (subst P h.seen answers)

-- what it receives with one bit more is its piece
pub row_push : (c : ContextValue) (place next : Place) (bits : List Bit) (x : Bit) (p : Piece)
    (h : IsReceiving c place bits) →
    Receives c.listen h.levels (h.more ++ x ∷ []) p next → Row c place (bits ++ x ∷ []) p next
row_push c place next bits x p h receives =
    let P : List Bit → Type 0 = λ m. Row c place m p next in
    let whole : bits ++ x ∷ [] ≡ h.before ++ (h.more ++ x ∷ []) =
    ap (λ m. m ++ x ∷ []) h.whole ∙ append_assoc h.before h.more (x ∷ []) in
    subst P (sym whole) (h.row (h.more ++ x ∷ []) p next receives)

-- something wrong with the next bit ends the piece
pub fault_row : (c : ContextValue) (place : Place) (bits : List Bit) (x : Bit) (cause : Cause) (segment : Segment)
    (stuffed : Bool) (h : IsReceiving c place bits) →
    Acknowledges c.listen (seen_of (frame_bits place bits)) x.driven → Breaks h.levels (h.more ++ x ∷ []) cause →
    IsNext (seen_of (frame_bits place bits)) segment stuffed →
    Row c place (bits ++ x ∷ []) (Fault InReception cause segment) AtFlag
fault_row c place bits x cause segment stuffed h answers breaks site =
    let P : List Level → Type 0 = λ m. IsNext m segment stuffed in
    row_push c place AtFlag bits x (Fault InReception cause segment) h
    (broken (breaks_off_now c.listen h.levels h.more x cause segment stuffed
    (receiving_acknowledges c place bits x h answers) h.right h.within breaks (subst P h.seen site)))

-- a whole line hasn't come
within_not_over : (l : List Level) → IsWithin l → IsOver l → ⊥
within_not_over l h (f, but) =
    let begun = h.begun in
    let long = h.long in
    let none = nil_from_length but.rest but.count in
    let Q : List Level → Type 0 = λ m. Line begun.frame begun.body begun.check begun.ack (m ++ begun.rest) in
    let whole : l ≡ but.line.part ++ tail but.ack = sym (append-nil l) ∙ ap (λ r. l ++ r) (sym none) ∙ but.line.whole in
    let on = line_at but.line.part (tail but.ack) begun.rest but.line.is_part (subst Q whole begun.line) in
    let count = ap length on.tails in
    omega (arith, count, long)

-- nor has it with one level more
within_then_not_over : (l : List Level) (x : Level) → IsWithin l → IsOver (l ++ x ∷ []) → ⊥
within_then_not_over l x h (f, but) =
    let begun = h.begun in
    let long = h.long in
    let none = nil_from_length but.rest but.count in
    let P : List Level → Type 0 = λ r. Line f but.body but.check but.ack ((l ++ x ∷ []) ++ r) in
    let Q : List Level → Type 0 = λ m. Line f but.body but.check but.ack m in
    let line = subst Q (append-nil (l ++ x ∷ [])) (subst P none but.line) in
    let agree = lines_agree f begun.frame but.body but.check begun.body begun.check but.ack begun.ack x l begun.rest
    line begun.line in
    let count = agree.3 in
    omega (arith, count, long)

-- what the reader finds wrong is wrong for the receiver
breaks_by : (c : ContextValue) (place : Place) (bits : List Bit) (x : Bit) (fault : LineFault)
    (h : IsReceiving c place bits) →
    Acknowledges c.listen (seen_of (frame_bits place bits)) x.driven →
    BreaksWith (seen_of (frame_bits place bits)) x.seen fault → Breaks h.levels (h.more ++ x ∷ []) (cause_by fault)
breaks_by c place bits x (StuffFault at) h answers broke =
    let P : List Level → Type 0 = λ m. BreaksWith m x.seen (StuffFault at) in
    stuff_breaks h.levels h.more x at (subst P h.seen broke)
breaks_by c place bits x (FormFault at) h answers broke =
    let P : List Level → Type 0 = λ m. BreaksWith m x.seen (FormFault at) in
    form_breaks h.levels h.more x at (λ none. receiving_begun c place bits h (h.seen ∙ none)) h.right.readable
    (subst P h.seen broke)
breaks_by c place bits x CheckFault h answers broke =
    let P : List Level → Type 0 = λ m. BreaksWith m x.seen CheckFault in
    check_breaks c.listen h.levels h.more x (receiving_acknowledges c place bits x h answers) (subst P h.seen broke)
breaks_by c place bits x (Trailing at) h answers broke =
    absurd (within_not_over (seen_of (frame_bits place bits)) (receiving_within c place bits h) broke.0)
breaks_by c place bits x NoAck h answers broke = absurd broke
breaks_by c place bits x Truncated h answers broke = absurd broke

-- a bit that isn't driven dominant, or isn't seen recessive
pub not_lost_driven : (x : Bit) → x.driven ≡ Recessive → x ≢ dominant_bit Recessive
not_lost_driven x e d = let wrong : Recessive ≡ Dominant = sym e ∙ ap (λ (b : Bit). b.driven) d in cc

pub not_lost_seen : (x : Bit) → x.seen ≡ Dominant → x ≢ dominant_bit Recessive
not_lost_seen x e d = let wrong : Dominant ≡ Recessive = sym e ∙ ap (λ (b : Bit). b.seen) d in cc

pub kept_if : (driven seen : Level) → (not (is_recessive driven) && is_recessive seen) ≡ false →
    record { driven = driven; seen = seen } ≢ dominant_bit Recessive
kept_if driven seen kept e =
    let lost : (not (is_recessive driven) && is_recessive seen) ≡ true =
    ap (λ (b : Bit). not (is_recessive b.driven) && is_recessive b.seen) e in
    absurd cc

-- where the reader finds no fault a line goes on
pub readable_if : (l : List Level) (x : Level) (fault : Option ShiftFault) → fault ≡ None → JudgesAt l x fault →
    IsReadable (l ++ x ∷ [])
readable_if l x fault none h = let J : Option ShiftFault → Type 0 = λ o. JudgesAt l x o in subst J none h

-- its own acknowledgement isn't seen
pub lost_row : (c : ContextValue) (place : Place) (bits : List Bit) (x : Bit) (segment : Segment) (stuffed : Bool) →
    IsReceiving c place bits →
    Acknowledges c.listen (seen_of (frame_bits place bits)) x.driven →
    IsNext (seen_of (frame_bits place bits)) segment stuffed → x ≡ dominant_bit Recessive →
    Row c place (bits ++ x ∷ []) (Fault InReception BitError segment) AtFlag
lost_row c place bits x segment stuffed h answers site lost =
    fault_row c place bits x BitError segment stuffed h answers (own_ack h.more (ap (λ y. h.more ++ y ∷ []) lost)) site

-- the reader finds a fault
pub wrong_row : (c : ContextValue) (place : Place) (bits : List Bit) (x : Bit) (w : ShiftFault) →
    IsReceiving c place bits →
    Acknowledges c.listen (seen_of (frame_bits place bits)) x.driven →
    JudgesAt (seen_of (frame_bits place bits)) x.seen (Some w) →
    Row c place (bits ++ x ∷ []) (Fault InReception (cause_by w.fault) w.segment) AtFlag
wrong_row c place bits x w h answers broke =
    fault_row c place bits x (cause_by w.fault) w.segment w.stuff h answers
    (breaks_by c place bits x w.fault h answers broke.1) broke.0

-- nothing is wrong with one bit more
right_push : (c : ContextValue) (place : Place) (bits : List Bit) (x : Bit) (h : IsReceiving c place bits) →
    IsReadable (seen_of (frame_bits place bits) ++ x.seen ∷ []) → x ≢ dominant_bit Recessive →
    AllRight h.levels (h.more ++ x ∷ [])
right_push c place bits x h readable seen =
    let P : List Level → Type 0 = λ m. IsReadable (m ++ x.seen ∷ []) in
    right_next h.levels h.more x h.right (subst P h.seen readable) seen

-- what is seen with one bit more, after the levels at the beginning
pub receiving_push : (c : ContextValue) (place : Place) (bits : List Bit) (x : Bit) (h : IsReceiving c place bits) →
    seen_of (frame_bits place bits) ++ x.seen ∷ [] ≡ h.levels ++ seen_of (h.more ++ x ∷ [])
receiving_push c place bits x h = ap (λ m. m ++ x.seen ∷ []) h.seen ∙ sym (seen_on h.levels h.more (x ∷ []))

-- the frame goes on
pub receiving_next : (c : ContextValue) (place : Place) (bits : List Bit) (x : Bit) → IsReceiving c place bits →
    Acknowledges c.listen (seen_of (frame_bits place bits)) x.driven → x ≢ dominant_bit Recessive →
    IsReadable (seen_of (frame_bits place bits) ++ x.seen ∷ []) →
    IsWithin (seen_of (frame_bits place bits) ++ x.seen ∷ []) → IsReceiving c place (bits ++ x ∷ [])
receiving_next c place bits x h answers seen readable within =
    let P : List Level → Type 0 = λ m. IsWithin m in
    record {
      before = h.before;
      more = h.more ++ x ∷ [];
      levels = h.levels;
      whole = ap (λ m. m ++ x ∷ []) h.whole ∙ append_assoc h.before h.more (x ∷ []);
      seen = frame_push place bits x ∙ receiving_push c place bits x h;
      row = h.row;
      inside = h.inside;
      answers = receiving_acknowledges c place bits x h answers;
      right = right_push c place bits x h readable seen;
      within = subst P (receiving_push c place bits x h) within;
    }

-- the reader finds no fault and shows no frame
pub goes_on : (c : ContextValue) (place : Place) (bits : List Bit) (x : Bit) → IsReceiving c place bits →
    Acknowledges c.listen (seen_of (frame_bits place bits)) x.driven → x ≢ dominant_bit Recessive →
    IsReadable (seen_of (frame_bits place bits) ++ x.seen ∷ []) →
    ShowsFrame (seen_of (frame_bits place bits) ++ x.seen ∷ []) None → IsReceiving c place (bits ++ x ∷ [])
goes_on c place bits x h answers seen readable none =
    let levels : List Level = seen_of (frame_bits place bits) in
    let within = within_here (levels ++ x.seen ∷ []) readable
    (λ f but. let wrong : None ≡ Some f = none.only f but in cc)
    (within_then_not_over levels x.seen (receiving_within c place bits h)) in
    receiving_next c place bits x h answers seen readable within

-- the reader shows a frame
pub received_row : (c : ContextValue) (place : Place) (bits : List Bit) (x : Bit) (f : FrameValue) →
    IsReceiving c place bits →
    Acknowledges c.listen (seen_of (frame_bits place bits)) x.driven → x ≢ dominant_bit Recessive →
    IsReadable (seen_of (frame_bits place bits) ++ x.seen ∷ []) →
    ShowsFrame (seen_of (frame_bits place bits) ++ x.seen ∷ []) (Some f) →
    Row c place (bits ++ x ∷ []) (Reception f) AtLastEofBit
received_row c place bits x f h answers seen readable shown =
    let R : List Level → Type 0 = λ m. IsLineButFor 1 f m in
    row_push c place AtLastEofBit bits x (Reception f) h
    (receives_now c.listen h.levels (h.more ++ x ∷ []) f h.inside (receiving_acknowledges c place bits x h answers)
    (right_push c place bits x h readable seen) (subst R (receiving_push c place bits x h) shown.some))
