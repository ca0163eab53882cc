-- When an ACK is due, and when a whole line has come.
use Rattle.std.proofs.Common.{◌≡◌, ◌+◌, inl, inr, ◌↔◌, IsTrue, ℕ, Bool, Option, None, List, [], ◌∷◌, ◌++◌}
use Rattle.std.proofs.Common.{length, replicate, take, refl, ap, sym, subst, ◌∙◌, arith, append_assoc}
use Rattle.std.proofs.lemmas.List.{length-append, length-take-le, length_push}
use Rattle.std.proofs.lemmas.List.{nil_from_length, same_from_push}
use Rattle.can_frame.specs.Frame.{FrameValue}
use Rattle.can_levels.specs.declared.level.Level.{Level}
use Rattle.can_levels.specs.declared.level.Level.TheVariants.{Dominant, Recessive}
use Rattle.can_bits.specs.declared.body_word.BodyWord.{BodyWord}
use Rattle.can_bits.specs.declared.frame_part.FramePart.{FramePart}
use Rattle.can_bits.specs.declared.frame_part.FramePart.TheVariants.{Stuffed, FixedForm}
use Rattle.can_bits.specs.declared.shift.Shift.{Shift}
use Rattle.can_levels.specs.declared.shift_fault.ShiftFault.{ShiftFault}
use Rattle.can_levels.specs.Check.{Crc}
use Rattle.can_levels.specs.Line.{StuffedPart, tail}
use Rattle.can_bits.specs.Inside.Gathering.{SaysWhetherRight}
use Rattle.can_levels.specs.Streaming.{IsReadable, IsLineButFor, IsOver}
use Rattle.can_levels.specs.Acknowledging.{IsAckDue}
use Rattle.can_bits.specs.Inside.FrameParts.{IsInside, IsPast, ReadsAt}
use Rattle.can_bits.specs.Shifts.{Broke, StandsBy, StandsFor}
use Rattle.lemmas.proofs.Lists.{last_of, append-cancel}
use Rattle.can_levels.proofs.Ending.{same_part, same_spelling}
use Rattle.can_levels.proofs.Readables.{readable_front}
use Rattle.can_bits.proofs.Reader.Past.{past_but_for}
use Rattle.can_levels.proofs.Reader.Inside.{not_past}
use Rattle.can_bits.proofs.Reader.Told.{broke_wrong, says_so}

-- what has broken isn't right so far
pub broke_not_readable : (s : Shift) (l : List Level) (w : ShiftFault) → Broke w s l → IsReadable l → ⊥
broke_not_readable s l w h right =
    let P : List Level → Type 0 = λ m. IsReadable m in
    broke_wrong s l w h (readable_front (h.front ++ h.wrong ∷ []) h.later
    (subst P (h.whole ∙ sym (append_assoc h.front (h.wrong ∷ []) h.later)) right))

-- how many levels have come after the stuffed part
pub past_count : {g : BodyWord} {came : ℕ} {f : FrameValue} {b c : List Level} (n : ℕ) (l part after : List Level) →
    IsPast n g came l →
    StuffedPart f b c part → l ≡ part ++ after → n ≡ length after
past_count n l part after h k whole =
    let t = take n (tail h.ack) in
    let both : h.part ++ t ≡ part ++ after = sym h.whole ∙ whole in
    let same = same_part t after h.is_part k both in
    let rest : t ≡ after = append-cancel part t after (ap (λ p. p ++ t) (sym same) ∙ both) in
    sym (length-take-le n (tail h.ack) h.within) ∙ ap length rest

-- how many levels there are then
pub past_length : {g : BodyWord} {came n : ℕ} (l : List Level) (h : IsPast n g came l) → length l ≡ length h.part + n
past_length {n = n} l h =
    let within = h.within in
    omega (arith, ap length h.whole, length-append h.part (take n (tail h.ack)), length-take-le n (tail h.ack) within)

-- a reader past the stuffed part
pub past_now : (s : Shift) (l : List Level) (n : ℕ) → s.wrong ≡ None → s.frame_part ≡ FixedForm n → StandsFor s l →
    IsPast n s.gathered s.count l
past_now s l n right at h =
    subst (λ (e : FramePart). ReadsAt e s l) at (subst (λ (o : Option ShiftFault). StandsBy o s l) right h)

-- one in it
pub inside_now : (s : Shift) (l : List Level) → s.wrong ≡ None → s.frame_part ≡ Stuffed → StandsFor s l →
    IsInside s.gathered s.count s.last s.run l
inside_now s l right at h =
    subst (λ (e : FramePart). ReadsAt e s l) at (subst (λ (o : Option ShiftFault). StandsBy o s l) right h)

-- in it no part has come
pub inside_no_part : {g : BodyWord} {came : ℕ} {last : Level} {n : ℕ} {f : FrameValue} {b c : List Level}
    (l part after : List Level) →
    IsInside g came last n l → StuffedPart f b c part → l ≡ part ++ after → ⊥
inside_no_part {f = f} {b = b} {c = c} l part after h k whole =
    not_past h.part (record { frame = f; body = b; check = c; part = part; rest = after; is_part = k; whole = whole })

-- what waits for its ACK is right so far
pub due_readable : (l : List Level) → IsAckDue l → IsReadable l
due_readable l h = record {
  begun = record {
    frame = h.frame;
    body = h.body;
    check = h.check;
    ack = Dominant;
    rest = Dominant ∷ Recessive ∷ replicate 7 Recessive;
    line = record {
      part = h.part;
      is_part = h.is_part;
      whole = ap (λ m. m ++ Dominant ∷ Recessive ∷ replicate 7 Recessive) h.whole
          ∙ append_assoc h.part (Recessive ∷ []) (Dominant ∷ Recessive ∷ replicate 7 Recessive);
    };
  };
  right = λ few. h.right;
}

-- an ACK is due where the CRC sequence is right
pub due_by : {g : BodyWord} {came : ℕ} (r : Bool) (l : List Level) (h : IsPast 1 g came l) →
    SaysWhetherRight r h.body h.check → IsTrue r ↔ IsAckDue l
due_by r l h says =
    let told = says_so r h.body h.check says in (
      λ t. record {
        frame = h.frame;
        body = h.body;
        check = h.check;
        part = h.part;
        is_part = h.is_part;
        right = told.0 t;
        whole = h.whole;
      },
      λ due.
          let same = same_part (Recessive ∷ []) (Recessive ∷ []) h.is_part due.is_part (sym h.whole ∙ due.whole) in
          let P : List Level → Type 0 = λ s. StuffedPart h.frame h.body h.check s in
          let spells = same_spelling (subst P same h.is_part) due.is_part in
          told.1 (subst (λ (b : List Level). Crc b h.check) (sym spells.1)
          (subst (λ (c : List Level). Crc due.body c) (sym spells.2) due.right)),
    )

-- a whole line is right so far, and has ten levels after its stuffed part
pub over_readable : (l : List Level) → IsOver l → IsReadable l
over_readable l (f, h) = record {
  begun = record { frame = f; body = h.body; check = h.check; ack = h.ack; rest = h.rest; line = h.line };
  right = λ few. h.right;
}

-- a line but for its last level is its stuffed part and nine levels more
pub sixth_part : (f : FrameValue) (l : List Level) (h : IsLineButFor 1 f l) →
    l ≡ h.line.part ++ (Recessive ∷ h.ack ∷ replicate 7 Recessive)
sixth_part f l h =
    elim (last_of h.rest) [
      | inl none ↦ let count = h.count in absurd (omega (arith, count, ap length none))
      | inr some ↦
          let count = h.count in
          let line = h.line in
          let nine : List Level = Recessive ∷ h.ack ∷ replicate 7 Recessive in
          let one : some.0 ≡ [] =
          nil_from_length some.0 (omega (arith, count, ap length some.2, length_push some.0 some.1)) in
          let rest : h.rest ≡ some.1 ∷ [] = some.2 ∙ ap (λ m. m ++ some.1 ∷ []) one in
          let whole : l ++ some.1 ∷ [] ≡ (line.part ++ nine) ++ Recessive ∷ [] =
          ap (λ m. l ++ m) (sym rest) ∙ line.whole ∙ sym (append_assoc line.part nine (Recessive ∷ [])) in
          (same_from_push l (line.part ++ nine) some.1 Recessive whole).0
    ]

-- a whole line has come
pub over_by : {g : BodyWord} {came : ℕ} (l : List Level) → IsPast 10 g came l → IsOver l
over_by l h = (h.frame, past_but_for 10 0 l h (omega arith) refl)
