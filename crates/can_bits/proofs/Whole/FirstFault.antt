-- The first fault after levels with which nothing is wrong.
use Rattle.std.proofs.Common.{◌≡◌, inl, inr, ℕ, List, [], ◌∷◌, ◌++◌, length, replicate, refl, ap}
use Rattle.std.proofs.Common.{sym, subst, ◌∙◌, arith, append_assoc}
use Rattle.std.proofs.lemmas.List.{same_from_push}
use Rattle.can_frame.specs.Frame.{FrameValue}
use Rattle.can_levels.specs.declared.level.Level.{Level}
use Rattle.can_levels.specs.declared.level.Level.TheVariants.{Recessive}
use Rattle.can_bits.specs.declared.body_word.BodyWord.{BodyWord}
use Rattle.can_levels.specs.declared.line_fault.LineFault.{LineFault}
use Rattle.can_levels.specs.declared.line_fault.LineFault.TheVariants.{Stuff, Form, Crc as CheckFault}
use Rattle.can_levels.specs.declared.line_fault.LineFault.TheVariants.{NoAck, Truncated, Trailing}
use Rattle.can_levels.specs.Check.{Crc}
use Rattle.can_levels.specs.Line.{Line, tail}
use Rattle.can_levels.specs.Reading.{IsReceived, Begins, IsPastPart, IsFaultless, IsOpen}
use Rattle.can_levels.specs.Reading.{HasWrongCheck, IsNotAcknowledged, IsFirstFault}
use Rattle.can_levels.specs.Streaming.{IsOver, IsLineButFor, BreaksWith}
use Rattle.can_bits.specs.Inside.FrameParts.{IsPast}
use Rattle.lemmas.proofs.Lists.{cases_list}
use Rattle.can_levels.proofs.Ending.{line_at}
use Rattle.can_bits.proofs.Reader.Past.{past_with}
use Rattle.can_levels.proofs.Readables.{wrong_whole, faultless_readable, readable_but}
use Rattle.can_levels.proofs.LineEnds.{over_part}
use Rattle.can_levels.proofs.Whole.Faultless.{faultless_check, faultless_ack}

-- where a line is over its stuffed part has come
pub over_past : (l : List Level) → IsOver l → IsPastPart l
over_past l over =
    let b = over.1 in
    let line = b.line in
    record {
      frame = over.0;
      body = b.body;
      check = b.check;
      part = line.part;
      rest = tail b.ack;
      is_part = line.is_part;
      whole = over_part l over;
    }

-- where it isn't over it goes on
pub faultless_open : (l : List Level) → IsFaultless l → (IsOver l → ⊥) → IsOpen l
faultless_open l h not_over = record {
  faultless = h;
  more = elim (cases_list h.begun.rest) [
    | inl none ↦
        absurd (not_over (h.begun.frame, readable_but 0 l (faultless_readable l h) (ap length none) (omega arith)))
    | inr some ↦ omega (arith, ap length some.2)
  ];
}

-- where it is over it was received
pub faultless_received : (f : FrameValue) (l : List Level) → IsFaultless l → (over : IsLineButFor 0 f l) →
    IsReceived f l
faultless_received f l h over =
    let line = over.line in
    let whole : l ≡ line.part ++ tail over.ack = over_part l (f, over) in
    let answered =
    faultless_ack line.part (Recessive ∷ replicate 7 Recessive) Recessive over.ack line.is_part whole h in
    record {
      body = over.body;
      check = over.check;
      right = over.right;
      line = record {
        part = line.part;
        is_part = line.is_part;
        whole = whole
            ∙ ap (λ a. line.part ++ tail a) answered;
      };
    }

-- what is wrong with a level is the first fault of the levels
pub first_fault : (l later : List Level) (x : Level) (fault : LineFault) → IsFaultless l → BreaksWith l x fault →
    IsFirstFault (l ++ x ∷ later) fault
first_fault l later x (Stuff at) h (none, inside, count) =
    let good = faultless_open l h (λ over. inside.before_end (over_past l over)) in
    (l, record { good = good; wrong = x; rest = later; whole = refl; none = none }, inside, sym count)
first_fault l later x (Form at) h (none, outside, over, count) = (
  l,
  record { good = faultless_open l h over; wrong = x; rest = later; whole = refl; none = none },
  outside,
  sym count,
)
first_fault l later x CheckFault h (e, recessive) =
    let p = e.past in absurd (e.wrong (faultless_check p.part (e.ack ∷ []) Recessive p.is_part (wrong_whole l e) h))
first_fault l later x (Trailing at) h (over, count) = (
  l,
  record {
    frame = over.0;
    received = faultless_received over.0 l h over.1;
    next = x;
    rest = later;
    whole = refl;
  },
  sym count,
)
first_fault l later x NoAck h broke = absurd broke
first_fault l later x Truncated h broke = absurd broke

-- a stuffed part and some levels of its tail, with more levels
abbrev past_later : {g : BodyWord} {came : ℕ} (n : ℕ) (l later : List Level) (x : Level) →
    IsPast n g came (l ++ x ∷ []) →
    IsPastPart (l ++ x ∷ later)
past_later n l later x h =
    let p = past_with n (l ++ x ∷ []) later h in
    let whole : l ++ x ∷ later ≡ p.part ++ p.rest = sym (append_assoc l (x ∷ []) later) ∙ p.whole in
    record {
      frame = p.frame;
      body = p.body;
      check = p.check;
      part = p.part;
      rest = p.rest;
      is_part = p.is_part;
      whole = whole;
    }

-- a wrong CRC sequence, with its delimiter
pub wrong_check_here : {g : BodyWord} {came : ℕ} (l later : List Level) (x : Level)
    (h : IsPast 1 g came (l ++ x ∷ [])) →
    (Crc h.body h.check → ⊥) → HasWrongCheck (l ++ x ∷ later)
wrong_check_here l later x h wrong =
    record { past = past_later 1 l later x h; later = later; delimiter = refl; wrong = wrong }

-- a recessive ACK slot
pub no_ack_here : {g : BodyWord} {came : ℕ} (l later : List Level) (x : Level) → IsPast 2 g came (l ++ x ∷ []) →
    x ≡ Recessive →
    IsFaultless l → IsNotAcknowledged (l ++ x ∷ later)
no_ack_here l later x h recessive good =
    let parts =
    same_from_push l (h.part ++ Recessive ∷ []) x h.ack
    (h.whole ∙ sym (append_assoc h.part (Recessive ∷ []) (h.ack ∷ []))) in
    record {
      past = past_later 2 l later x h;
      later = later;
      slot = ap (λ a. Recessive ∷ a ∷ later) (sym parts.1 ∙ recessive);
      right = faultless_check h.part [] Recessive h.is_part parts.0 good;
    }

-- a right CRC sequence, with its delimiter
pub right_check_here : {g : BodyWord} {came : ℕ} (l : List Level) (h : IsPast 1 g came l) → Crc h.body h.check →
    (b : Begins l) → Crc b.body b.check × (length b.rest ≡ 9)
right_check_here l h right b =
    let P : List Level → Type 0 = λ m. Line b.frame b.body b.check b.ack (m ++ b.rest) in
    let on = line_at h.part (Recessive ∷ []) b.rest h.is_part (subst P h.whole b.line) in
    let count = ap length on.tails in
    (subst (λ m. Crc m b.check) on.body (subst (λ c. Crc h.body c) on.check right), omega (arith, count))
