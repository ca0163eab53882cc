-- Levels with which nothing is wrong so far.
use Rattle.std.proofs.Common.{◌≡◌, ◌+◌, ◌-◌, ◌≤◌, inl, inr, ℕ, suc, List, [], ◌∷◌, ◌++◌, length}
use Rattle.std.proofs.Common.{replicate, take, drop, refl, ap, sym, subst, ◌∙◌, arith, append_assoc}
use Rattle.std.proofs.lemmas.Bool.{cases_eq}
use Rattle.std.proofs.lemmas.List.{append-nil, length-append, length-drop, take-append-drop}
use Rattle.can_frame.specs.Frame.{FrameValue}
use Rattle.can_levels.specs.declared.level.Level.{Level}
use Rattle.can_levels.specs.declared.level.Level.TheVariants.{Dominant, Recessive}
use Rattle.can_levels.specs.Check.{Crc}
use Rattle.can_levels.specs.Line.{StuffedPart, Line, tail}
use Rattle.can_levels.specs.Reading.{IsReceived, Begins, IsPastPart, IsFaultless}
use Rattle.lemmas.proofs.Lists.{fronts, append-cancel, append-split, cases_list}
use Rattle.can_levels.proofs.Ending.{line_at, begins_front}
use Rattle.can_levels.proofs.Going.{inside_open}
use Rattle.can_levels.proofs.Whole.Steps.{Holds-nothing, IsBefore-nothing, inside_of}

-- a received line is one with which nothing is wrong
pub faultless_whole : {f : FrameValue} {p : List Level} → IsReceived f p → IsFaultless p
faultless_whole {f = f} {p = p} h =
    let P : List Level → Type 0 = λ l. Line f h.body h.check Dominant l in
    record {
      begun = record {
        frame = f;
        body = h.body;
        check = h.check;
        ack = Dominant;
        rest = [];
        line = subst P (sym (append-nil p)) h.line;
      };
      right = λ _. h.right;
      acked = λ _. refl;
    }

-- after a line there is no more of it
pub whole_ends : {f : FrameValue} {p : List Level} (x : Level) (q : List Level) → IsReceived f p →
    Begins (p ++ x ∷ q) → ⊥
whole_ends {p = p} x q h begun =
    let line = h.line in
    let split : p ++ x ∷ q ≡ line.part ++ (tail Dominant ++ x ∷ q) =
    ap (λ l. l ++ x ∷ q) line.whole ∙ append_assoc line.part (tail Dominant) (x ∷ q) in
    let P : List Level → Type 0 = λ l. Line begun.frame begun.body begun.check begun.ack (l ++ begun.rest) in
    let on = line_at line.part (tail Dominant ++ x ∷ q) begun.rest line.is_part (subst P split begun.line) in
    let count = ap length on.tails in
    omega (arith, count, length-append (tail Dominant ++ x ∷ q) begun.rest)

-- the CRC sequence of a part that has ended is right
pub faultless_check : {f : FrameValue} {b c p : List Level} (part after : List Level) (x : Level) →
    StuffedPart f b c part →
    p ≡ part ++ x ∷ after → IsFaultless p → Crc b c
faultless_check {b = b} {c = c} part after x h e good =
    let line = good.begun in
    let P : List Level → Type 0 = λ l. Line line.frame line.body line.check line.ack (l ++ line.rest) in
    let on = line_at part (x ∷ after) line.rest h (subst P e line.line) in
    let count = ap length on.tails in
    let right = good.right (omega (arith, count, length-append after line.rest)) in
    subst (λ l. Crc l c) (sym on.body) (subst (λ l. Crc line.body l) (sym on.check) right)

-- its ACK slot is dominant
pub faultless_ack : {f : FrameValue} {b c p : List Level} (part after : List Level) (x y : Level) →
    StuffedPart f b c part →
    p ≡ part ++ x ∷ y ∷ after → IsFaultless p → y ≡ Dominant
faultless_ack part after x y h e good =
    let line = good.begun in
    let P : List Level → Type 0 = λ l. Line line.frame line.body line.check line.ack (l ++ line.rest) in
    let on = line_at part (x ∷ y ∷ after) line.rest h (subst P e line.line) in
    let tails = on.tails in
    let count = ap length tails in
    let dominant = good.acked (omega (arith, count, length-append after line.rest)) in
    let same : line.ack ≡ y = cc in
    sym same ∙ dominant

-- what begins a line that misses few levels is its stuffed part and some levels of its tail
pub tail_left : (l : List Level) (b : Begins l) (k : ℕ) → k + length b.rest ≡ 10 →
    l ≡ b.line.part ++ take k (tail b.ack)
tail_left l b k count =
    let part = b.line.part in
    let t : List Level = tail b.ack in
    let split : l ++ b.rest ≡ (part ++ take k t) ++ drop k t =
    b.line.whole ∙ ap (λ m. part ++ m) (sym (take-append-drop k t)) ∙ sym (append_assoc part (take k t) (drop k t)) in
    let long : length l ≡ length (part ++ take k t) =
    omega (
      arith,
      ap length split,
      length-append l b.rest,
      length-append (part ++ take k t) (drop k t),
      length-drop k t,
      count,
    ) in
    (append-split l b.rest (part ++ take k t) (drop k t) long split).0

-- with a level more nothing is wrong either, where the CRC sequence is right if its delimiter came, and where the ACK
-- slot is dominant if it came
pub faultless_next : (l : List Level) (x : Level) → IsFaultless l → (b : Begins (l ++ x ∷ [])) →
    (length b.rest ≡ 9 → Crc b.body b.check) →
    (length b.rest ≡ 8 → b.ack ≡ Dominant) → IsFaultless (l ++ x ∷ [])
faultless_next l x h b right acked =
    let before = begins_front l (x ∷ []) b in
    let line = before.line in
    let long : length before.rest ≡ length b.rest + 1 = omega arith in
    record {
      begun = b;
      right = λ few. elim (cases_eq (length b.rest) 9) [
        | inl nine ↦ right nine
        | inr less ↦
            let k = 8 - length b.rest in
            faultless_check line.part (take k (b.ack ∷ Recessive ∷ replicate 7 Recessive)) Recessive line.is_part
            (tail_left l before (suc k) (omega (arith, few, less, long))) h
      ];
      acked = λ few. elim (cases_eq (length b.rest) 8) [
        | inl eight ↦ acked eight
        | inr less ↦
            let k = 7 - length b.rest in
            faultless_ack line.part (take k (Recessive ∷ replicate 7 Recessive)) Recessive b.ack line.is_part
            (tail_left l before (suc (suc k)) (omega (arith, few, less, long))) h
      ];
    }

-- a level more of a stuffed part, or its last one: the whole tail is missing
pub inside_next : (l : List Level) (x : Level) → (IsPastPart l → ⊥) → (b : Begins (l ++ x ∷ [])) → 10 ≤ length b.rest
inside_next l x inside b =
    let line = b.line in
    let whole : l ++ (x ∷ b.rest) ≡ line.part ++ tail b.ack = sym (append_assoc l (x ∷ []) b.rest) ∙ line.whole in
    let past : (rest : List Level) → l ≡ line.part ++ rest → ⊥ = λ rest e.
    inside (record {
      frame = b.frame;
      body = b.body;
      check = b.check;
      part = line.part;
      rest = rest;
      is_part = line.is_part;
      whole = e;
    }) in
    elim (fronts l line.part (x ∷ b.rest) (tail b.ack) whole) [
      | inl longer ↦ elim (cases_list longer.0) [
        | inl none ↦
            absurd (past [] (sym (append-nil l) ∙ ap (λ r. l ++ r) (sym none) ∙ sym longer.1
            ∙ sym (append-nil line.part)))
        | inr some ↦
            let left : x ∷ b.rest ≡ longer.0 ++ tail b.ack =
            append-cancel l (x ∷ b.rest) (longer.0 ++ tail b.ack)
            (whole ∙ ap (λ p. p ++ tail b.ack) longer.1 ∙ append_assoc l longer.0 (tail b.ack)) in
            omega (arith, ap length left, length-append longer.0 (tail b.ack), ap length some.2)
      ]
      | inr shorter ↦ absurd (past shorter.0 shorter.1)
    ]

-- before the first level
pub faultless_nothing : IsFaultless []
faultless_nothing = (inside_open [] (inside_of [] [] Dominant 0 (Holds-nothing Dominant) IsBefore-nothing)).faultless
