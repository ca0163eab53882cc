-- Where a reading of levels stops.
use Rattle.std.proofs.Common.{◌≡◌, inl, inr, List, [], ◌∷◌, ◌++◌, length}
use Rattle.std.proofs.Common.{refl, ap, sym, subst, ◌∙◌, arith, append_assoc}
use Rattle.std.proofs.lemmas.List.{append-nil, length-append}
use Rattle.can_frame.specs.Frame.{FrameValue}
use Rattle.can_levels.specs.declared.level.Level.{Level}
use Rattle.can_levels.specs.declared.level.Level.TheVariants.{Dominant}
use Rattle.can_levels.specs.Line.{StuffedPart, Line, tail}
use Rattle.can_levels.specs.Reading.{IsReceived, Begins, IsFaultless, IsOpen}
use Rattle.lemmas.proofs.Lists.{fronts, append-cancel, cases_list}
use Rattle.can_levels.proofs.Ending.{same_part, same_spelling, begins_front}
use Rattle.can_levels.proofs.Whole.Faultless.{whole_ends}

-- a reading stops after this front: the levels end, or no line goes on
pub data Stops (l p : List Level) : Type 0 where
  ends : l ≡ p → Stops l p
  breaks : (x : Level) (rest : List Level) → l ≡ p ++ x ∷ rest → (Begins (p ++ x ∷ []) → ⊥) → Stops l p

-- levels that begin a line go no further than to where reading stops
stops_first : (l p q c : List Level) → Stops l p → Begins q → (rest : List Level) → l ≡ q ++ rest → q ≡ p ++ c → c ≡ []
stops_first l p q [] s begun rest e h = refl
stops_first l p q (y ∷ c) (ends same) begun rest e h =
    let long : l ≡ l ++ ((y ∷ c) ++ rest) =
    e ∙ ap (λ m. m ++ rest) (h ∙ ap (λ m. m ++ y ∷ c) (sym same)) ∙ append_assoc l (y ∷ c) rest in
    let count = ap length long in
    absurd (omega (arith, count, length-append l ((y ∷ c) ++ rest)))
stops_first l p q (y ∷ c) (breaks x after whole none) begun rest e h =
    let both : x ∷ after ≡ (y ∷ c) ++ rest =
    append-cancel p (x ∷ after) ((y ∷ c) ++ rest)
    (sym whole ∙ e ∙ ap (λ m. m ++ rest) h ∙ append_assoc p (y ∷ c) rest) in
    let same : x ≡ y = cc in
    let P : List Level → Type 0 = λ m. Begins m in
    let front = begins_front (p ++ y ∷ []) c (subst P (h ∙ sym (append_assoc p (y ∷ []) c)) begun) in
    absurd (none (subst (λ (z : Level). Begins (p ++ z ∷ [])) (sym same) front))

-- the rest after a front where reading stops
rest_of : {l p : List Level} → Stops l p → (rest : List Level) × (l ≡ p ++ rest)
rest_of {p = p} (ends same) = ([], same ∙ sym (append-nil p))
rest_of (breaks x rest whole none) = (x ∷ rest, whole)

pub stops_once : (l p q : List Level) → Stops l p → Stops l q → IsFaultless p → IsFaultless q → p ≡ q
stops_once l p q s t good other =
    let (x, hx) = rest_of s in
    let (y, hy) = rest_of t in
    elim (fronts p q x y (sym hx ∙ hy)) [
      | inl longer ↦
          let none = stops_first l p q longer.0 s other.begun y hy longer.1 in
          sym (longer.1 ∙ ap (λ c. p ++ c) none ∙ append-nil p)
      | inr shorter ↦
          let none = stops_first l q p shorter.0 t good.begun x hx shorter.1 in
          shorter.1 ∙ ap (λ c. q ++ c) none ∙ append-nil q
    ]

-- a good front that stops the reading reaches as far as any front that begins a line
pub reaches : (l p q rest : List Level) → Stops l p → Begins q → l ≡ q ++ rest → (c : List Level) × (p ≡ q ++ c)
reaches l p q rest s begun e =
    let (x, hx) = rest_of s in
    elim (fronts p q x rest (sym hx ∙ e)) [
      | inl longer ↦
          let none = stops_first l p q longer.0 s begun rest e longer.1 in
          ([], sym (ap (λ m. m ++ []) longer.1 ∙ append-nil (p ++ longer.0) ∙ ap (λ c. p ++ c) none ∙ append-nil p))
      | inr shorter ↦ shorter
    ]

-- what goes on isn't whole
pub open_not_whole : {f : FrameValue} (p : List Level) → IsOpen p → IsReceived f p → ⊥
open_not_whole p h k =
    let b = h.faultless.begun in
    elim (cases_list b.rest) [
      | inl none ↦ let more = h.more in let count = ap length none in omega arith
      | inr some ↦
          let P : List Level → Type 0 = λ r. Line b.frame b.body b.check b.ack (p ++ r) in
          let Q : List Level → Type 0 = λ m. Line b.frame b.body b.check b.ack m in
          let line = subst Q (sym (append-nil (p ++ some.0 ∷ some.1))) (subst P some.2 b.line) in
          whole_ends some.0 some.1 k (record {
            frame = b.frame;
            body = b.body;
            check = b.check;
            ack = b.ack;
            rest = [];
            line = line;
          })
    ]

-- a line is that of one frame
pub received_once : (f g : FrameValue) (l : List Level) → IsReceived f l → IsReceived g l → f ≡ g
received_once f g l h k =
    let line = h.line in
    let other = k.line in
    let same = same_part (tail Dominant) (tail Dominant) line.is_part other.is_part (sym line.whole ∙ other.whole) in
    let P : List Level → Type 0 = λ s. StuffedPart g k.body k.check s in
    (same_spelling line.is_part (subst P (sym same) other.is_part)).0
