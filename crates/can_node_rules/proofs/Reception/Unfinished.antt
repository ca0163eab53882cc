-- A frame under way at its receiver can go on to a piece.
use Rattle.std.proofs.Common.{◌≡◌, ◌≢◌, inl, inr, Bool, true, false, List, [], ◌∷◌, ◌++◌}
use Rattle.std.proofs.Common.{length, refl, ap, sym, subst, ◌∙◌, arith, append_assoc}
use Rattle.std.proofs.lemmas.Bool.{cases_eq}
use Rattle.std.proofs.lemmas.List.{append-nil}
use Rattle.can_frame.specs.Frame.{FrameValue}
use Rattle.can_levels.specs.declared.level.Level.{Level}
use Rattle.can_levels.specs.declared.level.Level.TheVariants.{Dominant, Recessive}
use Rattle.can_levels.specs.Line.{StuffedPart}
use Rattle.can_levels.specs.Reading.{Begins, IsPastPart}
use Rattle.can_levels.specs.Segments.{segment_after}
use Rattle.can_levels.specs.Segments.IsNext.{after_part}
use Rattle.can_levels.proofs.Ending.{begins_in}
use Rattle.can_node_rules.specs.declared.cause.Cause.TheVariants.{Form as FormError}
use Rattle.can_node_rules.specs.declared.fault_site.FaultSite.TheVariants.{InReception}
use Rattle.can_node_rules.specs.Bits.{Bit, recessive_bit, seen_of}
use Rattle.can_node_rules.specs.Context.{ContextValue}
use Rattle.can_node_rules.specs.Pieces.{Place}
use Rattle.can_node_rules.specs.Pieces.Place.{AtFlag}
use Rattle.can_node_rules.specs.Pieces.Piece.{Fault}
use Rattle.can_node_rules.specs.Frames.{Acknowledges}
use Rattle.can_node_rules.specs.Frames.Breaks.{form}
use Rattle.can_node_rules.specs.Table.{Row}
use Rattle.can_node_rules.specs.Cut.{IsUnfinished}
use Rattle.can_node_rules.specs.UnfinishedPieces.{IsReceiving, frame_bits}
use Rattle.can_node_rules.proofs.Reception.Acknowledging.{quiet}
use Rattle.can_levels.proofs.NextOnce.{past_here}
use Rattle.can_node_rules.proofs.Reception.ReceiverBits.{fault_row, frame_push, receiving_next, receiving_push}
use Rattle.can_node_rules.proofs.Reception.ReceiverBits.{receiving_within, not_lost_driven, not_lost_seen}
use Rattle.can_node_rules.proofs.Reception.Beginnings.{front_good}
use Rattle.can_node_rules.proofs.Bits.Slots.{right_or_wrong, due_right, not_due, within_not_due}
use Rattle.can_node_rules.proofs.Bits.Slots.{dominant_wrong, delimiter_here, slot_good}

-- what isn't finished with one bit more isn't finished before it
before_more : (c : ContextValue) (place : Place) (bits : List Bit) (x : Bit) → IsUnfinished c place (bits ++ x ∷ []) →
    IsUnfinished c place bits
before_more c place bits x h =
    let P : List Bit → Type 0 = λ m. Row c place m h.piece h.next in
    record {
      piece = h.piece;
      next = h.next;
      more = x;
      rest = h.more ∷ h.rest;
      lawful = subst P (append_assoc bits (x ∷ []) (h.more ∷ h.rest)) h.lawful;
    }

-- after the stuffed part a dominant level is a form error, but in the ACK slot
dominant_next : {f : FrameValue} {b d : List Level} (c : ContextValue) (place : Place) (bits : List Bit)
    (part after : List Level) → IsReceiving c place bits →
    StuffedPart f b d part → seen_of (frame_bits place bits) ≡ part ++ after → length after ≢ 1 →
    IsUnfinished c place bits
dominant_next c place bits part after h is_part e other =
    let levels : List Level = seen_of (frame_bits place bits) in
    let P : List Level → Type 0 = λ m. IsPastPart m in
    let Q : List Level → Type 0 = λ m. Begins m in
    let past : IsPastPart (h.levels ++ seen_of h.more) = subst P h.seen (past_here part after is_part e) in
    record {
      piece = Fault InReception FormError (segment_after (length after));
      next = AtFlag;
      more = recessive_bit Dominant;
      rest = [];
      lawful = fault_row c place bits (recessive_bit Dominant) FormError (segment_after (length after)) false h
          (quiet c.listen levels (not_due levels part after is_part e other))
          (form
          (record {
            before = h.more;
            last = recessive_bit Dominant;
            whole = refl;
            none = λ begun. dominant_wrong levels part after is_part e other
                (subst Q (sym (receiving_push c place bits (recessive_bit Dominant) h)) begun);
          })
          past)
          (after_part part after is_part e);
    }

-- within the stuffed part the levels of some line may follow, and a dominant one after them
part_on : {f : FrameValue} {b d : List Level} (c : ContextValue) (place : Place) (bits : List Bit) (more : List Level) →
    IsReceiving c place bits →
    StuffedPart f b d (seen_of (frame_bits place bits) ++ more) → IsUnfinished c place bits
part_on {f = f} {b = b} {d = d} c place bits [] h is_part =
    let levels : List Level = seen_of (frame_bits place bits) in
    let P : List Level → Type 0 = λ m. StuffedPart f b d m in
    dominant_next c place bits levels [] h (subst P (append-nil levels) is_part) (sym (append-nil levels))
    (λ one. omega (arith, one))
part_on {f = f} {b = b} {d = d} c place bits (x ∷ more) h is_part =
    let levels : List Level = seen_of (frame_bits place bits) in
    let P : List Level → Type 0 = λ m. StuffedPart f b d m in
    let longer : StuffedPart f b d ((levels ++ x ∷ []) ++ more) =
    subst P (sym (append_assoc levels (x ∷ []) more)) is_part in
    let good = front_good (levels ++ x ∷ []) more longer in
    let next = receiving_next c place bits (recessive_bit x) h
    (quiet c.listen levels (within_not_due levels more x is_part)) (not_lost_driven (recessive_bit x) refl) good.0
    good.1 in
    before_more c place bits (recessive_bit x)
    (part_on c place (bits ++ recessive_bit x ∷ []) more next
    (subst P (ap (λ m. m ++ more) (sym (frame_push place bits (recessive_bit x)))) longer))

-- so may a bit in the ACK slot, and a dominant level after it
slot_on : {f : FrameValue} {b d : List Level} (c : ContextValue) (place : Place) (bits : List Bit) (part : List Level)
    (x : Bit) → IsReceiving c place bits →
    StuffedPart f b d part → seen_of (frame_bits place bits) ≡ part ++ Recessive ∷ [] →
    Acknowledges c.listen (seen_of (frame_bits place bits)) x.driven → x.seen ≡ Dominant →
    IsUnfinished c place bits
slot_on c place bits part x h is_part e answers seen =
    let levels : List Level = seen_of (frame_bits place bits) in
    let good = slot_good levels part x.seen is_part e in
    let next = receiving_next c place bits x h answers (not_lost_seen x seen) good.0 good.1 in
    let whole : seen_of (frame_bits place (bits ++ x ∷ [])) ≡ part ++ (Recessive ∷ x.seen ∷ []) =
    frame_push place bits x ∙ ap (λ m. m ++ x.seen ∷ []) e ∙ append_assoc part (Recessive ∷ []) (x.seen ∷ []) in
    before_more c place bits x (dominant_next c place (bits ++ x ∷ []) part (Recessive ∷ x.seen ∷ []) next is_part whole
    (λ one. omega (arith, one)))

-- what is driven there hangs on the CRC sequence
slot_drives : {f : FrameValue} {b d : List Level} (listen : Bool) (l part : List Level) → StuffedPart f b d part →
    l ≡ part ++ Recessive ∷ [] →
    (y : Level) × Acknowledges listen l y
slot_drives true l part h e = (Recessive, refl)
slot_drives {f = f} {b = b} {d = d} false l part h e =
    elim (right_or_wrong b d h.check) [
      | inl right ↦ (
        Dominant,
        record {
          frame = f;
          body = b;
          check = d;
          part = part;
          is_part = h;
          right = right;
          whole = e;
        },
      )
      | inr wrong ↦ (Recessive, λ due. wrong (due_right l part h e due))
    ]

-- past the stuffed part
past_on : {f : FrameValue} {b d : List Level} (c : ContextValue) (place : Place) (bits : List Bit)
    (part after : List Level) → IsReceiving c place bits →
    StuffedPart f b d part → seen_of (frame_bits place bits) ≡ part ++ after → IsUnfinished c place bits
past_on c place bits part after h is_part e =
    elim (cases_eq (length after) 1) [
      | inl one ↦
          let levels : List Level = seen_of (frame_bits place bits) in
          let here = delimiter_here levels part after is_part e one (receiving_within c place bits h).begun in
          let drives = slot_drives c.listen levels part is_part here in
          slot_on c place bits part (record { driven = drives.0; seen = Dominant }) h is_part here drives.1 refl
      | inr other ↦ dominant_next c place bits part after h is_part e other
    ]

-- a frame under way at its receiver can go on to some piece
pub open_receiving : (c : ContextValue) (place : Place) (bits : List Bit) → IsReceiving c place bits →
    IsUnfinished c place bits
open_receiving c place bits h =
    elim (begins_in (seen_of (frame_bits place bits)) (receiving_within c place bits h).begun) [
      | inl part ↦ part_on c place bits part.3 h part.4
      | inr past ↦ past_on c place bits past.part past.rest h past.is_part past.whole
    ]
