-- Levels that were right so far.
use Rattle.std.proofs.Common.{◌≡◌, ℕ, ◌≤◌, inl, inr, None, List, [], ◌∷◌, ◌++◌}
use Rattle.std.proofs.Common.{length, ap, sym, subst, ◌∙◌, arith, append_assoc}
use Rattle.std.proofs.lemmas.List.{append-nil, length-append, nil_from_length}
use Rattle.can_frame.specs.Frame.{FrameValue}
use Rattle.can_levels.specs.declared.level.Level.{Level}
use Rattle.can_levels.specs.declared.level.Level.TheVariants.{Dominant, Recessive}
use Rattle.can_levels.specs.declared.line_fault.LineFault.{LineFault}
use Rattle.can_levels.specs.declared.line_fault.LineFault.TheVariants.{Stuff, Form, Crc as CheckFault}
use Rattle.can_levels.specs.declared.line_fault.LineFault.TheVariants.{NoAck, Truncated, Trailing}
use Rattle.can_levels.specs.Check.{Crc}
use Rattle.can_levels.specs.Line.{StuffedPart, Line, tail}
use Rattle.can_levels.specs.Reading.{IsFaultless, IsOpen}
use Rattle.can_levels.specs.Streaming.{IsReadable, IsLineButFor, EndsInWrongCheck, BreaksWith, ShowsFrame}
use Rattle.lemmas.proofs.Lists.{fronts, append-cancel, cases_list}
use Rattle.can_levels.proofs.Ending.{line_at, begins_front}
use Rattle.can_levels.proofs.LineEnds.{missing}

-- a front of what is right so far is right so far
pub readable_front : (p q : List Level) → IsReadable (p ++ q) → IsReadable p
readable_front p q h =
    record {
      begun = begins_front p q h.begun;
      right = λ few. h.right (omega (arith, few, length-append q h.begun.rest));
    }

-- where nothing is wrong a line can be read on
abbrev pub faultless_readable : (l : List Level) → IsFaultless l → IsReadable l
faultless_readable l h = record { begun = h.begun; right = λ few. h.right (omega (arith, few)) }

-- near its end it is a line but for some levels
pub readable_but : (missing : ℕ) (l : List Level) (h : IsReadable l) → length h.begun.rest ≡ missing → missing ≤ 7 →
    IsLineButFor missing h.begun.frame l
readable_but missing l h count few =
    let b = h.begun in
    record {
      body = b.body;
      check = b.check;
      ack = b.ack;
      rest = b.rest;
      line = b.line;
      right = h.right (omega (arith, count, few));
      count = count;
    }

-- what is open is right so far
pub open_readable : (l : List Level) → IsOpen l → IsReadable l
open_readable l h = faultless_readable l h.faultless

-- a front of a stuffed part is right so far
pub part_readable : {f : FrameValue} {b c : List Level} (l more : List Level) → StuffedPart f b c (l ++ more) →
    IsReadable l
part_readable {f = f} {b = b} {c = c} l more h = record {
  begun = record {
    frame = f;
    body = b;
    check = c;
    ack = Dominant;
    rest = more ++ tail Dominant;
    line = record { part = l ++ more; is_part = h; whole = sym (append_assoc l more (tail Dominant)) };
  };
  right = λ few. absurd (omega (arith, few, length-append more (tail Dominant)));
}

-- the levels up to the ACK slot after a wrong CRC sequence
pub wrong_whole : (l : List Level) (h : EndsInWrongCheck l) → l ≡ h.past.part ++ Recessive ∷ h.ack ∷ []
wrong_whole l h = h.past.whole ∙ ap (λ r. h.past.part ++ r) h.slot

-- a wrong level isn't right
pub breaks_not_readable : (l : List Level) (x : Level) (fault : LineFault) → BreaksWith l x fault →
    IsReadable (l ++ x ∷ []) → ⊥
breaks_not_readable l x (Stuff at) broke h = broke.0 h.begun
breaks_not_readable l x (Form at) broke h = broke.0 h.begun
breaks_not_readable l x CheckFault broke h =
    let e = broke.0 in
    let p = e.past in
    let b = h.begun in
    let after : List Level = Recessive ∷ e.ack ∷ x ∷ [] in
    let whole : l ++ x ∷ [] ≡ p.part ++ after =
    ap (λ m. m ++ x ∷ []) (wrong_whole l e) ∙ append_assoc p.part (Recessive ∷ e.ack ∷ []) (x ∷ []) in
    let P : List Level → Type 0 = λ m. Line b.frame b.body b.check b.ack (m ++ b.rest) in
    let on = line_at p.part after b.rest p.is_part (subst P whole b.line) in
    let count = ap length on.tails in
    let right : Crc b.body b.check = h.right (omega (arith, count)) in
    e.wrong (subst (λ m. Crc m p.check) (sym on.body) (subst (λ c. Crc b.body c) (sym on.check) right))
breaks_not_readable l x (Trailing at) broke h =
    let but = broke.0.1 in
    let none = nil_from_length but.rest but.count in
    let P : List Level → Type 0 = λ r. l ++ r ≡ but.line.part ++ tail but.ack in
    let whole : l ≡ but.line.part ++ tail but.ack = sym (append-nil l) ∙ subst P none but.line.whole in
    let b = h.begun in
    let Q : List Level → Type 0 = λ m. Line b.frame b.body b.check b.ack (m ++ b.rest) in
    let more : l ++ x ∷ [] ≡ but.line.part ++ (tail but.ack ++ x ∷ []) =
    ap (λ m. m ++ x ∷ []) whole ∙ append_assoc but.line.part (tail but.ack) (x ∷ []) in
    let count = missing but.line.part (tail but.ack ++ x ∷ []) b.rest but.line.is_part (subst Q more b.line) in
    omega (arith, count)
breaks_not_readable l x NoAck broke h = broke
breaks_not_readable l x Truncated broke h = broke

-- a wrong level shows no frame
pub wrong_shows_none : (l : List Level) → ¬ IsReadable l → ShowsFrame l None
wrong_shows_none l wrong = record {
  some = tt;
  only = λ f but. absurd (wrong (record {
    begun = record { frame = f; body = but.body; check = but.check; ack = but.ack; rest = but.rest; line = but.line };
    right = λ few. but.right;
  }));
}

-- the first wrong level of a list is one
pub first_once : (l front other later rest : List Level) (x y : Level) → IsReadable front →
    ¬ IsReadable (front ++ x ∷ []) → l ≡ front ++ x ∷ later →
    IsReadable other → ¬ IsReadable (other ++ y ∷ []) → l ≡ other ++ y ∷ rest → (front ≡ other) × (x ≡ y)
first_once l front other later rest x y h wrong e k amiss d =
    let both : front ++ x ∷ later ≡ other ++ y ∷ rest = sym e ∙ d in
    elim (fronts front other (x ∷ later) (y ∷ rest) both) [
      | inl longer ↦ elim (cases_list longer.0) [
        | inl none ↦
            let same : other ≡ front = longer.1 ∙ ap (λ m. front ++ m) none ∙ append-nil front in
            let left : x ∷ later ≡ y ∷ rest =
            append-cancel front (x ∷ later) (y ∷ rest) (both ∙ ap (λ m. m ++ y ∷ rest) same) in
            (sym same, cc)
        | inr some ↦
            let split : other ≡ front ++ some.0 ∷ some.1 = longer.1 ∙ ap (λ m. front ++ m) some.2 in
            let left : x ∷ later ≡ (some.0 ∷ some.1) ++ y ∷ rest =
            append-cancel front (x ∷ later) ((some.0 ∷ some.1) ++ y ∷ rest)
            (both ∙ ap (λ m. m ++ y ∷ rest) split ∙ append_assoc front (some.0 ∷ some.1) (y ∷ rest)) in
            let same : x ≡ some.0 = cc in
            let P : List Level → Type 0 = λ m. IsReadable m in
            let on = readable_front (front ++ some.0 ∷ []) some.1
            (subst P (split ∙ sym (append_assoc front (some.0 ∷ []) some.1)) k) in
            absurd (wrong (subst (λ (z : Level). IsReadable (front ++ z ∷ [])) (sym same) on))
      ]
      | inr shorter ↦ elim (cases_list shorter.0) [
        | inl none ↦
            let same : front ≡ other = shorter.1 ∙ ap (λ m. other ++ m) none ∙ append-nil other in
            let left : x ∷ later ≡ y ∷ rest =
            append-cancel other (x ∷ later) (y ∷ rest) (ap (λ m. m ++ x ∷ later) (sym same) ∙ both) in
            (same, cc)
        | inr some ↦
            let split : front ≡ other ++ some.0 ∷ some.1 = shorter.1 ∙ ap (λ m. other ++ m) some.2 in
            let left : (some.0 ∷ some.1) ++ x ∷ later ≡ y ∷ rest =
            append-cancel other ((some.0 ∷ some.1) ++ x ∷ later) (y ∷ rest)
            (sym (append_assoc other (some.0 ∷ some.1) (x ∷ later)) ∙ ap (λ m. m ++ x ∷ later) (sym split) ∙ both) in
            let same : y ≡ some.0 = cc in
            let P : List Level → Type 0 = λ m. IsReadable m in
            let on = readable_front (other ++ some.0 ∷ []) some.1
            (subst P (split ∙ sym (append_assoc other (some.0 ∷ []) some.1)) h) in
            absurd (amiss (subst (λ (z : Level). IsReadable (other ++ z ∷ [])) (sym same) on))
      ]
    ]
