-- Stuffed parts of lines, over lists that have their newest level first.
use Rattle.std.proofs.Common.{◌≡◌, ◌<◌, inl, inr, List, [], ◌∷◌, ◌++◌, length}
use Rattle.std.proofs.Common.{reverse, refl, ap, sym, subst, ◌∙◌, arith, append_assoc}
use Rattle.std.proofs.lemmas.Bool.{cases_lt}
use Rattle.std.proofs.lemmas.List.{append-nil, reverse-append, reverse-reverse, length-append}
use Rattle.can_frame.specs.Frame.{FrameValue}
use Rattle.can_levels.specs.declared.level.Level.{Level}
use Rattle.can_levels.specs.Fields.{says_count}
use Rattle.can_levels.specs.DataBits.{IsWhole}
use Rattle.can_levels.specs.Spelling.{Spells}
use Rattle.can_levels.specs.Line.{StuffedPart}
use Rattle.lemmas.proofs.Lists.{reverse-cons, fronts}
use Rattle.can_levels.proofs.Runs.{run, IsShort}
use Rattle.can_levels.proofs.Stuffs.{unstuffed, unstuffed-kept, unstuffed-dropped, stuffed_from, stuffed_to}
use Rattle.can_levels.proofs.SaidCounts.{whole_of, says_count-more, whole_has_fields}

-- the levels without their stuff bits, oldest first
abbrev pub plain : List Level → List Level
plain past = reverse (unstuffed past)

-- these levels are the stuffed part of a line
pub record IsPart (past : List Level) : Type 0 where
  pub short : IsShort past
  pub closed : run past < 5
  pub whole : IsWhole (plain past)

-- what a stuffed part is without its stuff bits
pub plain-part : {f : FrameValue} {b c s : List Level} → StuffedPart f b c s → plain (reverse s) ≡ b ++ c
plain-part {b = b} {c = c} {s = s} h = ap reverse (stuffed_to (b ++ c) s h.stuffed).unstuffs ∙ reverse-reverse (b ++ c)

-- and what it spells
pub spelt : {f : FrameValue} {b c s : List Level} → StuffedPart f b c s → Spells f b c (plain (reverse s))
spelt h = record { frame = h.frame; body = h.body; check = h.check; whole = plain-part h }

pub part_to : {f : FrameValue} {b c s : List Level} → StuffedPart f b c s → IsPart (reverse s)
part_to {f = f} {b = b} {c = c} {s = s} h =
    let form = stuffed_to (b ++ c) s h.stuffed in
    record { short = form.short; closed = form.closed; whole = whole_of f b c (plain (reverse s)) (spelt h) }

pub part_of : {f : FrameValue} {b c : List Level} (past : List Level) → IsShort past → run past < 5 →
    Spells f b c (plain past) → StuffedPart f b c (reverse past)
part_of {f = f} {b = b} {c = c} past short closed spells =
    let P : List Level → Type 0 = λ p. IsShort p in
    let few : List Level → Type 0 = λ p. run p < 5 in
    let same : reverse (reverse past) ≡ past = reverse-reverse past in
    let unstuffs : unstuffed past ≡ reverse (b ++ c) =
    sym (reverse-reverse (unstuffed past)) ∙ ap reverse spells.whole in
    record {
      frame = spells.frame;
      body = spells.body;
      check = spells.check;
      stuffed = stuffed_from (b ++ c) (reverse past)
          (record {
            short = subst P (sym same) short;
            closed = subst few (sym same) closed;
            unstuffs = ap unstuffed same ∙ unstuffs;
          });
    }

-- levels that come later leave the earlier ones as they are
pub unstuffed-later : (q past : List Level) → (e : List Level) × (unstuffed (q ++ past) ≡ e ++ unstuffed past)
unstuffed-later [] past = ([], refl)
unstuffed-later (x ∷ q) past =
    let (e, h) = unstuffed-later q past in
    elim (cases_lt (run (q ++ past)) 5) [
      | inl few ↦ (x ∷ e, unstuffed-kept x (q ++ past) few ∙ ap (λ l. x ∷ l) h)
      | inr many ↦ (e, unstuffed-dropped x (q ++ past) many ∙ h)
    ]

-- after fewer than five equal levels the next one is no stuff bit
pub unstuffed-next : (q : List Level) (x : Level) (past : List Level) → run past < 5 →
    (e : List Level) × (unstuffed ((q ++ x ∷ []) ++ past) ≡ e ++ x ∷ unstuffed past)
unstuffed-next q x past few =
    let (e, h) = unstuffed-later q (x ∷ past) in
    (e, ap unstuffed (append_assoc q (x ∷ []) past) ∙ h ∙ ap (λ l. e ++ l) (unstuffed-kept x past few))

-- past a whole part there are more levels than the fields say
pub beyond : (q : List Level) (x : Level) (part : List Level) → IsPart part →
    says_count (plain ((q ++ x ∷ []) ++ part)) < length (plain ((q ++ x ∷ []) ++ part))
beyond q x part h =
    let (e, grown) = unstuffed-next q x part h.closed in
    let w = plain part in
    let longer : plain ((q ++ x ∷ []) ++ part) ≡ w ++ (x ∷ reverse e) =
    ap reverse grown ∙ reverse-append e (x ∷ unstuffed part)
    ∙ ap (λ l. l ++ reverse e) (reverse-cons x (unstuffed part))
    ∙ append_assoc w (x ∷ []) (reverse e) in
    let same = says_count-more w (x ∷ reverse e) (whole_has_fields w h.whole) in
    let count = h.whole.count in
    rw longer (omega (arith, same, count, length-append w (x ∷ reverse e)))

-- nothing comes after a part within another
extends_not : (c part longer : List Level) → IsPart part → IsPart longer → reverse longer ≡ reverse part ++ c →
    longer ≡ part
extends_not [] part longer h k e =
    sym (reverse-reverse longer) ∙ ap reverse (e ∙ append-nil (reverse part)) ∙ reverse-reverse part
extends_not (x ∷ c) part longer h k e =
    let turned : longer ≡ (reverse c ++ x ∷ []) ++ part =
    sym (reverse-reverse longer) ∙ ap reverse e ∙ reverse-append (reverse part) (x ∷ c)
    ∙ ap (λ l. l ++ reverse (reverse part)) (reverse-cons x c)
    ∙ ap (λ l. (reverse c ++ x ∷ []) ++ l) (reverse-reverse part) in
    let more = beyond (reverse c) x part h in
    let P : List Level → Type 0 = λ l. IsWhole (plain l) in
    let whole = subst P turned k.whole in
    let count = whole.count in
    absurd (omega (arith, more, count))

-- a stuffed part says itself where it ends
pub part_once : (p r x y : List Level) → IsPart p → IsPart r → reverse p ++ x ≡ reverse r ++ y → p ≡ r
part_once p r x y h k e =
    elim (fronts (reverse p) (reverse r) x y e) [
      | inl longer ↦ sym (extends_not longer.0 p r h k longer.1)
      | inr shorter ↦ extends_not shorter.0 r p k h shorter.1
    ]
