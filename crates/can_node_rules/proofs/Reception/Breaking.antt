-- A receiver's fault, from what the reader of one level at a time says.
use Rattle.std.proofs.Common.{◌≡◌, ◌≢◌, ◌⊎◌, ℕ, Bool, true, false, inl, inr, List, [], ◌∷◌}
use Rattle.std.proofs.Common.{◌++◌, length, refl, ap, ap₂, sym, subst, ◌∙◌, arith, append_assoc}
use Rattle.std.proofs.lemmas.List.{append-nil, length-append, same_from_push}
use Rattle.can_levels.specs.declared.level.Level.{Level}
use Rattle.can_levels.specs.declared.level.Level.TheVariants.{Dominant, Recessive}
use Rattle.can_levels.specs.declared.segment.Segment.{Segment}
use Rattle.can_levels.specs.declared.line_fault.LineFault.TheVariants.{Stuff as StuffFault}
use Rattle.can_levels.specs.declared.line_fault.LineFault.TheVariants.{Form as FormFault, Crc as CheckFault}
use Rattle.can_levels.specs.Check.{Crc}
use Rattle.can_levels.specs.Line.{Line}
use Rattle.can_levels.specs.Reading.{Begins, IsPastPart}
use Rattle.can_levels.specs.Segments.{IsNext}
use Rattle.can_levels.specs.Streaming.{IsReadable, EndsInWrongCheck, BreaksWith}
use Rattle.lemmas.proofs.Lists.{last_of, cases_list}
use Rattle.can_levels.proofs.Ending.{line_at, begins_in}
use Rattle.can_levels.proofs.Readables.{readable_front, wrong_whole}
use Rattle.can_node_rules.specs.declared.cause.Cause.{Cause}
use Rattle.can_node_rules.specs.declared.cause.Cause.TheVariants.{Stuff as StuffError, Form as FormError}
use Rattle.can_node_rules.specs.declared.cause.Cause.TheVariants.{Crc as CheckError}
use Rattle.can_node_rules.specs.Bits.{Bit, recessive_bit, dominant_bit, seen_of}
use Rattle.can_node_rules.specs.Frames.{Acknowledges, AllAcknowledge, IsWithin, FitsNoLine, Breaks, BreaksOff}
use Rattle.can_node_rules.specs.Frames.Breaks.{stuff, form, check, own_ack}
use Rattle.can_node_rules.specs.UnfinishedPieces.{AllRight}
use Rattle.can_levels.proofs.NextOnce.{past_here, after_once}
use Rattle.can_node_rules.proofs.Bits.Seen.{seen_split}
use Rattle.can_node_rules.proofs.Reception.ReceiverFaults.{more_after}

-- what was right was right before
pub right_front : (l : List Level) (a b : List Bit) → AllRight l (a ++ b) → AllRight l a
right_front l a b h =
    let P : List Level → Type 0 = λ m. IsReadable m in
    record {
      readable = readable_front (l ++ seen_of a) (seen_of b) (subst P (seen_split l (a ++ b) a b refl) h.readable);
      answered = λ before after e.
          h.answered before (after ++ b) (ap (λ m. m ++ b) e ∙ append_assoc before (dominant_bit Recessive ∷ after) b);
    }

-- before the first bit
pub right_nothing : (l : List Level) → IsReadable l → AllRight l []
right_nothing l h =
    let P : List Level → Type 0 = λ m. IsReadable m in
    record {
      readable = subst P (sym (append-nil l)) h;
      answered = λ before after e. omega (arith, ap length e, length-append before (dominant_bit Recessive ∷ after));
    }

-- with one bit more
pub right_next : (l : List Level) (bits : List Bit) (x : Bit) → AllRight l bits →
    IsReadable ((l ++ seen_of bits) ++ x.seen ∷ []) → x ≢ dominant_bit Recessive →
    AllRight l (bits ++ x ∷ [])
right_next l bits x h readable seen =
    let P : List Level → Type 0 = λ m. IsReadable m in
    record {
      readable = subst P (sym (seen_split l (bits ++ x ∷ []) bits (x ∷ []) refl)) readable;
      answered = λ before after e.
          elim (last_of after) [
            | inl none ↦
                let here : bits ++ x ∷ [] ≡ before ++ dominant_bit Recessive ∷ [] =
                e ∙ ap (λ m. before ++ dominant_bit Recessive ∷ m) none in
                seen (same_from_push bits before x (dominant_bit Recessive) here).1
            | inr some ↦
                let later : bits ++ x ∷ [] ≡ (before ++ dominant_bit Recessive ∷ some.0) ++ some.1 ∷ [] =
                e ∙ ap (λ m. before ++ dominant_bit Recessive ∷ m) some.2
                ∙ sym (append_assoc before (dominant_bit Recessive ∷ some.0) (some.1 ∷ [])) in
                h.answered before some.0 (same_from_push bits (before ++ dominant_bit Recessive ∷ some.0) x some.1
                later).0
          ];
    }

-- a CRC sequence is right where the ACK delimiter after it is readable
readable_right : (l : List Level) → IsReadable (l ++ Recessive ∷ []) → EndsInWrongCheck l → ⊥
readable_right l h w =
    let b = h.begun in
    let p = w.past in
    let P : List Level → Type 0 = λ m. Line b.frame b.body b.check b.ack (m ++ b.rest) in
    let whole = more_after l p.part (Recessive ∷ w.ack ∷ []) Recessive (wrong_whole l w) in
    let on = line_at p.part (Recessive ∷ w.ack ∷ Recessive ∷ []) b.rest p.is_part (subst P whole b.line) in
    let count = ap length on.tails in
    let right = h.right (omega (arith, count)) in
    w.wrong (subst (λ m. Crc m p.check) (sym on.body) (subst (λ m. Crc b.body m) (sym on.check) right))

-- where nothing is wrong there is no fault
right_not_broken : (l : List Level) (bits : List Bit) (cause : Cause) → AllRight l bits → Breaks l bits cause → ⊥
right_not_broken l bits cause h (stuff wrong inside) = wrong.none h.readable.begun
right_not_broken l bits cause h (form wrong past) = wrong.none h.readable.begun
right_not_broken l bits cause h (check before e ends) =
    let P : List Level → Type 0 = λ m. IsReadable m in
    readable_right (l ++ seen_of before)
    (subst P (seen_split l bits before (recessive_bit Recessive ∷ []) e) h.readable) ends
right_not_broken l bits cause h (own_ack before e) = h.answered before [] e

-- the first thing that goes wrong ends the piece
pub breaks_off_now : (listen : Bool) (l : List Level) (before : List Bit) (last : Bit) (cause : Cause)
    (segment : Segment) (stuffed : Bool) →
    AllAcknowledge listen l (before ++ last ∷ []) → AllRight l before → IsWithin (l ++ seen_of before) →
    Breaks l (before ++ last ∷ []) cause →
    IsNext (l ++ seen_of before) segment stuffed → BreaksOff listen l (before ++ last ∷ []) cause segment
breaks_off_now listen l before last cause segment stuffed answers right within breaks site = record {
  answers = answers;
  before = before;
  last = last;
  whole = refl;
  early = within;
  breaks = breaks;
  first = λ front rest other e broke.
      elim (last_of rest) [
        | inl none ↦ none
        | inr some ↦
            let whole : before ++ last ∷ [] ≡ (front ++ some.0) ++ some.1 ∷ [] =
            e ∙ ap (λ m. front ++ m) some.2 ∙ sym (append_assoc front some.0 (some.1 ∷ [])) in
            let same = same_from_push before (front ++ some.0) last some.1 whole in
            let P : List Bit → Type 0 = λ m. AllRight l m in
            absurd (right_not_broken l front other (right_front l front some.0 (subst P same.0 right)) broke)
      ];
  stuff_bit = stuffed;
  site = site;
}

-- whether the stuffed part has come whole is plain where a line begins
pub past_or_not : (l : List Level) → Begins l → IsPastPart l ⊎ (IsPastPart l → ⊥)
past_or_not l begun =
    elim (begins_in l begun) [
      | inr past ↦ inl past
      | inl (f, b, c, more, part) ↦ elim (cases_list more) [
        | inl none ↦ inl (past_here (l ++ more) [] part
            (sym (append-nil (l ++ more) ∙ ap (λ m. l ++ m) none ∙ append-nil l)))
        | inr some ↦ inr (λ past.
            let whole : l ++ more ≡ past.part ++ (past.rest ++ more) =
            ap (λ m. m ++ more) past.whole ∙ append_assoc past.part past.rest more in
            let none = after_once (l ++ more) past.part (l ++ more) (past.rest ++ more) [] past.is_part part whole
            (sym (append-nil (l ++ more))) in
            omega (arith, ap length none, length-append past.rest more, ap length some.2))
      ]
    ]

-- no line goes on with a level with which none begins
abbrev fits_no_line : (l : List Level) (before : List Bit) (last : Bit) →
    (Begins ((l ++ seen_of before) ++ last.seen ∷ []) → ⊥) → FitsNoLine l (before ++ last ∷ [])
fits_no_line l before last none =
    let P : List Level → Type 0 = λ m. Begins m in
    record {
      before = before;
      last = last;
      whole = refl;
      none = λ begun. none (subst P (seen_split l (before ++ last ∷ []) before (last ∷ []) refl) begun);
    }

-- a fault of the stuffed part that the reader finds is one of the receiver
pub stuff_breaks : (l : List Level) (before : List Bit) (last : Bit) (at : ℕ) →
    BreaksWith (l ++ seen_of before) last.seen (StuffFault at) → Breaks l (before ++ last ∷ []) StuffError
stuff_breaks l before last at (none, inside, count) = stuff (fits_no_line l before last none) inside.before_end

-- and so is one of a fixed level
pub form_breaks : (l : List Level) (before : List Bit) (last : Bit) (at : ℕ) → l ++ seen_of before ≢ [] →
    IsReadable (l ++ seen_of before) →
    BreaksWith (l ++ seen_of before) last.seen (FormFault at) → Breaks l (before ++ last ∷ []) FormError
form_breaks l before last at some readable (none, outside, over, count) =
    let levels : List Level = l ++ seen_of before in
    elim (past_or_not levels readable.begun) [
      | inl past ↦ form (fits_no_line l before last none) past
      | inr inside ↦ absurd (outside (record { begun = some; before_end = inside }))
    ]

-- a bit from its two levels
both_recessive : (x : Bit) → x.driven ≡ Recessive → x.seen ≡ Recessive → x ≡ recessive_bit Recessive
both_recessive x d s = let P : Level → Level → Bit = λ y z. record { driven = y; seen = z } in ap₂ P d s

-- a wrong CRC sequence isn't followed by an acknowledgement
recessive_there : (listen : Bool) (l : List Level) (y : Level) → Acknowledges listen l y → EndsInWrongCheck l →
    y ≡ Recessive
recessive_there true l y answers w = answers
recessive_there false l Recessive answers w = refl
recessive_there false l Dominant due w =
    let none = after_once l due.part w.past.part (Recessive ∷ []) (Recessive ∷ w.ack ∷ []) due.is_part
    w.past.is_part due.whole (wrong_whole l w) in
    cc

-- and a wrong CRC sequence
pub check_breaks : (listen : Bool) (l : List Level) (before : List Bit) (last : Bit) →
    AllAcknowledge listen l (before ++ last ∷ []) →
    BreaksWith (l ++ seen_of before) last.seen CheckFault → Breaks l (before ++ last ∷ []) CheckError
check_breaks listen l before last answers (wrong, recessive) =
    let driven = recessive_there listen (l ++ seen_of before) last.driven (answers before [] last refl) wrong in
    check before (ap (λ x. before ++ x ∷ []) (both_recessive last driven recessive)) wrong
