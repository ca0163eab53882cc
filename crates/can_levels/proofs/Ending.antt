-- Where a line can only go on in one way.
use Rattle.std.proofs.Common.{◌≡◌, ◌≤◌, ◌⊎◌, inl, inr, List, [], ◌∷◌, ◌++◌, reverse}
use Rattle.std.proofs.Common.{refl, ap, sym, subst, ◌∙◌, arith, append_assoc}
use Rattle.std.proofs.lemmas.List.{append-nil, reverse-append, reverse-reverse, same_from_push}
use Rattle.can_frame.specs.Frame.{FrameValue}
use Rattle.can_levels.specs.declared.level.Level.{Level}
use Rattle.can_levels.specs.declared.level.Level.TheVariants.{Dominant, Recessive}
use Rattle.can_levels.specs.Fields.{level_at}
use Rattle.can_levels.specs.Line.{StuffedPart, Line, tail}
use Rattle.can_levels.specs.Reading.{Begins, IsPastPart}
use Rattle.lemmas.proofs.Lists.{reverse-cons, reverse-push, fronts, last_of, append-cancel}
use Rattle.can_levels.proofs.Runs.{run, IsShort}
use Rattle.can_levels.proofs.Parts.{plain, IsPart, part_to, spelt, beyond, part_once, unstuffed-later}
use Rattle.can_levels.proofs.Going.{IsInside}
use Rattle.can_levels.proofs.Whole.OneSpelling.{Spells-unique}

-- one list of levels has one stuffed part at its beginning
pub same_part : {f g : FrameValue} {b c d e s t : List Level} (x y : List Level) → StuffedPart f b c s →
    StuffedPart g d e t → s ++ x ≡ t ++ y → s ≡ t
same_part {s = s} {t = t} x y h k e =
    let whole : reverse (reverse s) ++ x ≡ reverse (reverse t) ++ y =
    ap (λ l. l ++ x) (reverse-reverse s) ∙ e ∙ ap (λ l. l ++ y) (sym (reverse-reverse t)) in
    sym (reverse-reverse s) ∙ ap reverse (part_once (reverse s) (reverse t) x y (part_to h) (part_to k) whole)
    ∙ reverse-reverse t

-- one stuffed part has one frame, body and CRC sequence
pub same_spelling : {f g : FrameValue} {b c d e s : List Level} → StuffedPart f b c s → StuffedPart g d e s →
    (f ≡ g) × (b ≡ d) × (c ≡ e)
same_spelling {f = f} {g = g} {b = b} {c = c} {d = d} {e = e} {s = s} h k =
    Spells-unique f g b c d e (plain (reverse s)) (spelt h) (spelt k)

-- a line that begins with a whole stuffed part goes on with its tail
pub record GoesOn (f : FrameValue) (b c after : List Level) (g : FrameValue) (d e : List Level) (ack : Level)
    (rest : List Level) : Type 0 where
  pub frame : f ≡ g
  pub body : b ≡ d
  pub check : c ≡ e
  pub tails : tail ack ≡ after ++ rest

pub line_at : {f g : FrameValue} {b c d e : List Level} {ack : Level} (part after rest : List Level) →
    StuffedPart f b c part → Line g d e ack ((part ++ after) ++ rest) → GoesOn f b c after g d e ack rest
line_at {f = f} {g = g} {b = b} {c = c} {d = d} {e = e} {ack = ack} part after rest h line =
    let whole : part ++ (after ++ rest) ≡ line.part ++ tail ack = sym (append_assoc part after rest) ∙ line.whole in
    let same : part ≡ line.part = same_part (after ++ rest) (tail ack) h line.is_part whole in
    let P : List Level → Type 0 = λ p. StuffedPart g d e p in
    let spells = same_spelling h (subst P (sym same) line.is_part) in
    record {
      frame = spells.0;
      body = spells.1;
      check = spells.2;
      tails = sym (append-cancel part (after ++ rest) (tail ack) (whole ∙ ap (λ p. p ++ tail ack) (sym same)));
    }

-- no whole stuffed part has come where one goes on
no_part : (q part : List Level) → IsPart part → IsInside (q ++ part) → ⊥
no_part q part h k =
    elim (last_of q) [
      | inl none ↦
          let P : List Level → Type 0 = λ l. IsInside (l ++ part) in
          let here = subst P none k in
          let count = h.whole.count in
          let closed = h.closed in
          let five = here.goes_on count in
          omega arith
      | inr some ↦
          let P : List Level → Type 0 = λ l. IsInside (l ++ part) in
          let here = subst P some.2 k in
          let more = beyond some.0 some.1 part h in
          let fits = here.fits in
          omega arith
    ]

pub inside_not_past : (l : List Level) → IsInside (reverse l) → ¬ IsPastPart l
inside_not_past l h = λ p.
    let P : List Level → Type 0 = λ q. IsInside q in
    no_part (reverse p.rest) (reverse p.part) (part_to p.is_part)
    (subst P (ap reverse p.whole ∙ reverse-append p.part p.rest) h)

-- a front of what begins a line begins one
abbrev pub begins_front : (p q : List Level) → Begins (p ++ q) → Begins p
begins_front p q h =
    let P : List Level → Type 0 = λ l. Line h.frame h.body h.check h.ack l in
    record {
      frame = h.frame;
      body = h.body;
      check = h.check;
      ack = h.ack;
      rest = q ++ h.rest;
      line = subst P (append_assoc p q h.rest) h.line;
    }

-- a line that begins with these levels has its stuffed part past them or within
pub begins_in : (l : List Level) → Begins l →
    ((f : FrameValue) × (b : List Level) × (c : List Level) × (more : List Level) × StuffedPart f b c (l ++ more))
    ⊎ IsPastPart l
begins_in l h =
    let line = h.line in
    elim (fronts l line.part h.rest (tail h.ack) line.whole) [
      | inl longer ↦ let P : List Level → Type 0 = λ p. StuffedPart h.frame h.body h.check p in
          inl (h.frame, h.body, h.check, longer.0, subst P longer.1 line.is_part)
      | inr shorter ↦
          inr (record {
            frame = h.frame;
            body = h.body;
            check = h.check;
            part = line.part;
            rest = shorter.0;
            is_part = line.is_part;
            whole = shorter.1;
          })
    ]

-- what lies within a list that is short is short
short_within : (q past : List Level) → IsShort (q ++ past) → IsShort past
short_within [] past h = h
short_within (x ∷ q) past h = short_within q past h.1

-- with one level more a stuffed part has ended before, or it ends there
pub past_push : (l : List Level) (x : Level) → IsPastPart (l ++ x ∷ []) →
    IsPastPart l ⊎ ((f : FrameValue) × (b : List Level) × (c : List Level) × StuffedPart f b c (l ++ x ∷ []))
past_push l x p =
    elim (last_of p.rest) [
      | inl none ↦
          let P : List Level → Type 0 = λ s. StuffedPart p.frame p.body p.check s in
          let all : p.part ≡ l ++ x ∷ [] = sym (append-nil p.part) ∙ ap (λ r. p.part ++ r) (sym none) ∙ sym p.whole in
          inr (p.frame, p.body, p.check, subst P all p.is_part)
      | inr some ↦
          let split : l ++ x ∷ [] ≡ (p.part ++ some.0) ++ some.1 ∷ [] =
          p.whole ∙ ap (λ r. p.part ++ r) some.2 ∙ sym (append_assoc p.part some.0 (some.1 ∷ [])) in
          let same = same_from_push l (p.part ++ some.0) x some.1 split in
          inl (record {
            frame = p.frame;
            body = p.body;
            check = p.check;
            part = p.part;
            rest = some.0;
            is_part = p.is_part;
            whole = same.0;
          })
    ]

-- a stuffed part has no six equal levels
pub six_in_part : {f : FrameValue} {b c : List Level} (l : List Level) (x : Level) (more : List Level) →
    StuffedPart f b c ((l ++ x ∷ []) ++ more) → 6 ≤ run (x ∷ reverse l) → ⊥
six_in_part l x more part six =
    let turned : reverse ((l ++ x ∷ []) ++ more) ≡ reverse more ++ (x ∷ reverse l) =
    reverse-append (l ++ x ∷ []) more ∙ ap (λ p. reverse more ++ p) (reverse-push l x) in
    let P : List Level → Type 0 = λ p. IsShort p in
    let short = short_within (reverse more) (x ∷ reverse l) (subst P turned (part_to part).short) in
    let few = short.0 in
    omega arith

-- after five equal levels a line doesn't go on with a sixth
pub no_sixth : (l : List Level) (x : Level) → IsInside (reverse l) → 6 ≤ run (x ∷ reverse l) → ¬ Begins (l ++ x ∷ [])
no_sixth l x h six = λ begun.
    elim (begins_in (l ++ x ∷ []) begun) [
      | inl within ↦ six_in_part l x within.3 within.4 six
      | inr past ↦ elim (past_push l x past) [
        | inl before ↦ inside_not_past l h before
        | inr here ↦
            let P : List Level → Type 0 = λ s. StuffedPart here.0 here.1 here.2 s in
            six_in_part l x [] (subst P (sym (append-nil (l ++ x ∷ []))) here.3) six
      ]
    ]

-- the first level is no stuff bit
pub plain-first : (x : Level) (l : List Level) → (e : List Level) × (plain (reverse (x ∷ l)) ≡ x ∷ e)
plain-first x l =
    let (e, h) = unstuffed-later (reverse l) (x ∷ []) in
    (reverse e, ap plain (reverse-cons x l) ∙ ap reverse h ∙ reverse-append e (x ∷ []))

-- a stuffed part isn't empty, and begins dominant
pub part_begins : {f : FrameValue} {b c : List Level} (s : List Level) → StuffedPart f b c s →
    (rest : List Level) × (s ≡ Dominant ∷ rest)
part_begins [] part = let count = (part_to part).whole.count in absurd (omega arith)
part_begins (Dominant ∷ s) part = (s, refl)
part_begins (Recessive ∷ s) part =
    let (e, first) = plain-first Recessive s in
    let P : List Level → Type 0 = λ w. level_at w 0 ≡ Dominant in
    let wrong : Recessive ≡ Dominant = subst P first (part_to part).whole.begins in
    cc

-- no line begins recessive
pub no_start : (l : List Level) → ¬ Begins (Recessive ∷ l)
no_start l = λ begun.
    elim (begins_in (Recessive ∷ l) begun) [
      | inl within ↦ let (rest, e) = part_begins ((Recessive ∷ l) ++ within.3) within.4 in cc
      | inr past ↦ let (rest, e) = part_begins past.part past.is_part in
          let whole : Recessive ∷ l ≡ (Dominant ∷ rest) ++ past.rest = past.whole ∙ ap (λ s. s ++ past.rest) e in
          cc
    ]
