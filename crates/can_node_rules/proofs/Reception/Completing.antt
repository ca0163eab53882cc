-- A frame is received, from what the reader of one level at a time says.
use Rattle.std.proofs.Common.{◌≡◌, ◌≢◌, ◌&&◌, not, Bool, true, false, inl, inr, List, [], ◌∷◌, ◌++◌, length}
use Rattle.std.proofs.Common.{replicate, refl, ap, ap₂, sym, subst, ◌∙◌, arith, append_assoc}
use Rattle.std.proofs.lemmas.List.{length-append, length_push, nil_from_length, same_from_push}
use Rattle.can_node_rules.proofs.Bits.Slots.{due_here}
use Rattle.can_frame.specs.Frame.{FrameValue}
use Rattle.can_levels.specs.declared.level.Level.{Level}
use Rattle.can_levels.specs.declared.level.Level.TheVariants.{Dominant, Recessive}
use Rattle.can_levels.specs.Fields.{is_recessive}
use Rattle.can_levels.specs.Check.{Crc}
use Rattle.can_levels.specs.Line.{StuffedPart, Line, tail}
use Rattle.can_levels.specs.Reading.{IsPastPart}
use Rattle.can_levels.specs.Streaming.{IsReadable, IsLineButFor, IsOver}
use Rattle.can_levels.proofs.Readables.{readable_but}
use Rattle.lemmas.proofs.Lists.{fronts, last_of, cases_list, append-cancel}
use Rattle.can_node_rules.specs.Bits.{Bit, dominant_bit, seen_of}
use Rattle.can_node_rules.specs.Pieces.Place.{AtLastEofBit}
use Rattle.can_node_rules.specs.Pieces.Piece.{Reception}
use Rattle.can_levels.specs.Acknowledging.{IsAckDue}
use Rattle.can_node_rules.specs.Frames.{Acknowledges, AllAcknowledge, AckFits, IsWithin, Receives}
use Rattle.can_node_rules.specs.Frames.Receives.{reception}
use Rattle.can_levels.proofs.NextOnce.{past_here}
use Rattle.can_node_rules.specs.UnfinishedPieces.{AllRight}

-- what is readable and isn't a line but for its last level, nor a whole one, has two levels more at least
pub within_here : (l : List Level) → IsReadable l → ((f : FrameValue) → IsLineButFor 1 f l → ⊥) → (IsOver l → ⊥) →
    IsWithin l
within_here l h not_one not_over =
    let b = h.begun in
    elim (cases_list b.rest) [
      | inl none ↦ absurd (not_over (b.frame, readable_but 0 l h (ap length none) (omega arith)))
      | inr some ↦ elim (cases_list some.1) [
        | inl none ↦
            let count : length b.rest ≡ 1 = ap length some.2 ∙ ap (λ r. length (some.0 ∷ r)) none in
            absurd (not_one b.frame (readable_but 1 l h count (omega arith)))
        | inr more ↦
            let count : length b.rest ≡ length (some.0 ∷ more.0 ∷ more.1) =
            ap length some.2 ∙ ap (λ r. length (some.0 ∷ r)) more.2 in
            record { begun = b; long = omega (arith, count) }
      ]
    ]

-- a front of a stuffed part has the whole tail to come
pub part_within : {f : FrameValue} {b c : List Level} (l more : List Level) → StuffedPart f b c (l ++ more) → IsWithin l
part_within {f = f} {b = b} {c = c} l more part =
    let line : Line f b c Dominant (l ++ (more ++ tail Dominant)) =
    record { part = l ++ more; is_part = part; whole = sym (append_assoc l more (tail Dominant)) } in
    record {
      begun = record { frame = f; body = b; check = c; ack = Dominant; rest = more ++ tail Dominant; line = line };
      long = omega (arith, length-append more (tail Dominant));
    }

-- the bit at a place, from the levels seen
bit_there : (bits : List Bit) (u : List Level) (x : Level) (v : List Level) → seen_of bits ≡ u ++ x ∷ v →
    (before : List Bit) × (b : Bit) × (after : List Bit) × (bits ≡ before ++ b ∷ after) × (seen_of before ≡ u)
    × (b.seen ≡ x)
bit_there [] [] x v e = absurd (omega (arith, ap length e))
bit_there [] (y ∷ u) x v e = absurd (omega (arith, ap length e))
bit_there (b ∷ bits) [] x v e = let same : b.seen ≡ x = cc in ([], b, bits, refl, refl, same)
bit_there (b ∷ bits) (y ∷ u) x v e =
    let same : b.seen ≡ y = cc in
    let later : seen_of bits ≡ u ++ x ∷ v = cc in
    let (before, found, after, whole, seen, here) = bit_there bits u x v later in (
      b ∷ before,
      found,
      after,
      ap (λ m. b ∷ m) {y = before ++ found ∷ after} whole,
      ap (λ m. b.seen ∷ m) seen
          ∙ ap (λ z. z ∷ u) same,
      here,
    )

-- a bit from its two levels
pub lost_there : (x : Bit) → x.driven ≡ Dominant → x.seen ≡ Recessive → x ≡ dominant_bit Recessive
lost_there x d s = let P : Level → Level → Bit = λ y z. record { driven = y; seen = z } in ap₂ P d s

-- a dominant level that isn't seen
pub lost_if : (driven seen : Level) → (not (is_recessive driven) && is_recessive seen) ≡ true →
    record { driven = driven; seen = seen } ≡ dominant_bit Recessive
lost_if Dominant Recessive e = refl
lost_if Dominant Dominant e = absurd cc
lost_if Recessive seen e = absurd cc

-- where the ACK slot is next a receiver that doesn't only listen drives dominant
dominant_there : (l : List Level) (y : Level) → Acknowledges false l y → IsAckDue l → y ≡ Dominant
dominant_there l Dominant answers due = refl
dominant_there l Recessive none due = absurd (none due)

-- a level that isn't recessive is dominant
not_recessive : (y : Level) → (y ≡ Recessive → ⊥) → y ≡ Dominant
not_recessive Dominant h = refl
not_recessive Recessive h = absurd (h refl)

-- a receiver that saw each dominant level that it drove has seen its acknowledgement
acknowledged : {f : FrameValue} {b c : List Level} (listen : Bool) (l part : List Level) (bits : List Bit) (ack : Level)
    (later : List Level) →
    StuffedPart f b c part → Crc b c → (IsPastPart l → ⊥) → AllAcknowledge listen l bits →
    ((before after : List Bit) → bits ≢ before ++ dominant_bit Recessive ∷ after) →
    l ++ seen_of bits ≡ (part ++ Recessive ∷ []) ++ ack ∷ later → AckFits listen ack
acknowledged true l part bits ack later h right inside answers answered e = tt
acknowledged {f = f} {b = b} {c = c} false l part bits ack later h right inside answers answered e =
    elim (fronts l (part ++ Recessive ∷ []) (seen_of bits) (ack ∷ later) e) [
      | inr shorter ↦ absurd (inside
          (past_here part (Recessive ∷ shorter.0) h (shorter.1 ∙ append_assoc part (Recessive ∷ []) shorter.0)))
      | inl longer ↦
          let rest : seen_of bits ≡ longer.0 ++ ack ∷ later =
          append-cancel l (seen_of bits) (longer.0 ++ ack ∷ later)
          (e ∙ ap (λ m. m ++ ack ∷ later) longer.1 ∙ append_assoc l longer.0 (ack ∷ later)) in
          let (before, slot, after, whole, seen, here) = bit_there bits longer.0 ack later rest in
          let P : List Bit → Type 0 = λ m. AllAcknowledge false l m in
          let due = due_here (l ++ seen_of before) part h right (ap (λ m. l ++ m) seen ∙ sym longer.1) in
          let driven = dominant_there (l ++ seen_of before) slot.driven (answers before after slot whole) due in
          not_recessive ack (λ lost. answered before after
          (whole ∙ ap (λ x. before ++ x ∷ after) (lost_there slot driven (here ∙ lost))))
    ]

-- with the sixth bit of EOF the frame is received
pub receives_now : (listen : Bool) (l : List Level) (bits : List Bit) (f : FrameValue) → (IsPastPart l → ⊥) →
    AllAcknowledge listen l bits → AllRight l bits →
    IsLineButFor 1 f (l ++ seen_of bits) → Receives listen l bits (Reception f) AtLastEofBit
receives_now listen l bits f inside answers right h =
    elim (last_of h.rest) [
      | inl none ↦ let count = h.count in absurd (omega (arith, count, ap length none))
      | inr some ↦
          let count = h.count in
          let line = h.line in
          let levels : List Level = l ++ seen_of bits in
          let before : List Level = (line.part ++ Recessive ∷ []) ++ h.ack ∷ replicate 7 Recessive in
          let one : some.0 ≡ [] = nil_from_length some.0
          (omega (arith, count, ap length some.2, length_push some.0 some.1)) in
          let rest : h.rest ≡ some.1 ∷ [] = some.2 ∙ ap (λ m. m ++ some.1 ∷ []) one in
          let whole : levels ++ some.1 ∷ [] ≡ before ++ Recessive ∷ [] =
          ap (λ m. levels ++ m) (sym rest) ∙ line.whole
          ∙ sym (append_assoc line.part (Recessive ∷ []) (h.ack ∷ replicate 8 Recessive))
          ∙ sym (append_assoc (line.part ++ Recessive ∷ []) (h.ack ∷ replicate 7 Recessive) (Recessive ∷ [])) in
          let same = same_from_push levels before some.1 Recessive whole in
          let P : List Level → Type 0 = λ m. Line f h.body h.check h.ack (levels ++ m) in
          reception
          (record {
            answers = answers;
            body = h.body;
            crc = h.check;
            ack = h.ack;
            line = subst P (rest ∙ ap (λ x. x ∷ []) same.1) line;
            right = h.right;
            fits = acknowledged listen l line.part bits h.ack (replicate 7 Recessive) line.is_part h.right inside
                answers right.answered same.0;
          })
    ]
