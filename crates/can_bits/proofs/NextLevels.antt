-- The next level of the line that a transmitter sends.
use Rattle.std.proofs.Common.{◌≡◌, ◌≢◌, ◌+◌, ◌-◌, ◌*◌, ◌/◌, ◌^◌, ◌<◌, ◌≤◌, ◌==◌, inl, inr, ℕ, Some, List}
use Rattle.std.proofs.Common.{[], ◌∷◌, ◌++◌, length, reverse, take, refl, ap, sym, subst, ◌∙◌, arith, append_assoc}
use Rattle.std.specs.List.{slice_get}
use Rattle.std.proofs.Math.Nat.{mul-lt-mul_of_pos_right}
use Rattle.std.proofs.Math.Seq.{get_or-append_seam}
use Rattle.std.proofs.lemmas.Nat.{pow-add, pow_pos}
use Rattle.std.proofs.lemmas.List.{append-nil, length-append, reverse-append}
use Rattle.std.proofs.lemmas.List.{get_or_append_left, get_or-append_right, get_or-replicate}
use Rattle.std.proofs.lemmas.Option.{slice_get_within, get_or_from_slice_get}
use Rattle.can_frame.specs.Frame.{FrameValue}
use Rattle.can_levels.specs.declared.level.Level.{Level}
use Rattle.can_levels.specs.declared.level.Level.TheVariants.{Dominant, Recessive}
use Rattle.can_bits.specs.declared.body_word.BodyWord.{BodyWord}
use Rattle.can_levels.specs.Digits.{digit, level_of, opposite, value}
use Rattle.can_levels.specs.Check.{IsMultiple, Crc}
use Rattle.can_levels.specs.Fields.{level_at}
use Rattle.can_levels.specs.Line.{StuffedPart, tail}
use Rattle.can_levels.specs.Reading.{IsPastPart}
use Rattle.can_levels.specs.Streaming.{IsReadable}
use Rattle.can_levels.specs.PartSoFar.{BeginsPart}
use Rattle.can_bits.specs.Inside.FrameParts.{IsPast}
use Rattle.lemmas.proofs.Lists.{fronts, append-split, cases_list, reverse-cons}
use Rattle.can_levels.proofs.Values.{value-append, value-lt}
use Rattle.can_bits.proofs.Packing.Numbers.{digit-level}
use Rattle.can_levels.proofs.Products.{multiples_agree}
use Rattle.can_bits.proofs.Packing.Registers.{shifted_up}
use Rattle.can_levels.proofs.Runs.{run}
use Rattle.can_levels.proofs.Stuffs.{unstuffed, lead-same, other-opposite}
use Rattle.can_levels.proofs.Parts.{plain, plain-part, unstuffed-next}
use Rattle.can_levels.proofs.Ending.{same_part, six_in_part}
use Rattle.can_levels.proofs.Reader.Inside.{holds_by}
use Rattle.can_bits.proofs.Reader.Places.{inside_run}

-- ---- in the body and its CRC sequence

-- while a right CRC sequence comes the register is what is missing of it, moved up: its highest digit is the next
-- level's
pub next_check : (b c w t : List Level) (x : Level) (r : ℕ) → Crc b c → b ++ c ≡ w ++ x ∷ t → length b ≤ length w →
    r < 2 ^ 15 → IsMultiple (value w * 2 ^ 15 + r) → level_of (r / 2 ^ 14 == 1) ≡ x
next_check b c w t x r right whole past fits divides =
    let left : List Level = x ∷ t in
    let m = length t in
    let few : m ≤ 14 = omega (arith, ap length whole, length-append b c, length-append w left, right.count, past) in
    let j = 14 - m in
    let sum : m + j ≡ 14 = omega (arith, few) in
    let sum_more : length left + j ≡ 15 = omega (arith, few) in
    let power : 2 ^ m * 2 ^ j ≡ 2 ^ 14 = sym (pow-add 2 m j) ∙ ap (λ n. 2 ^ n) sum in
    let more : 2 ^ length left * 2 ^ j ≡ 2 ^ 15 = sym (pow-add 2 (length left) j) ∙ ap (λ n. 2 ^ n) sum_more in
    let all : IsMultiple (value w * 2 ^ length left + value left) =
    subst IsMultiple (ap value whole ∙ value-append w left) right.divides in
    let moved : (value w * 2 ^ length left + value left) * 2 ^ j ≡ value w * 2 ^ 15 + value left * 2 ^ j =
    omega (arith, ap (λ n. value w * n) more) in
    let high : value left * 2 ^ j < 2 ^ 15 = omega (arith, mul-lt-mul_of_pos_right (value-lt left) (pow_pos j), more) in
    let low : value t * 2 ^ j < 2 ^ 14 = omega (arith, mul-lt-mul_of_pos_right (value-lt t) (pow_pos j), power) in
    let same : r ≡ value left * 2 ^ j =
    multiples_agree (value w) r (value left * 2 ^ j) fits high divides
    (subst IsMultiple moved (shifted_up j (value w * 2 ^ length left + value left) all)) in
    let first = value-append (x ∷ []) t in
    let parts : value left * 2 ^ j ≡ digit x * 2 ^ 14 + value t * 2 ^ j =
    ap (λ n. n * 2 ^ j) first ∙ omega (arith, ap (λ n. digit x * n) power) in
    let top : r / 2 ^ 14 ≡ digit x = omega (arith, same, parts, low) in
    ap (λ n. level_of (n == 1)) top ∙ digit-level x

-- while the body comes the next level is the body's
pub next_body : (b c w t : List Level) (x y : Level) → b ++ c ≡ w ++ x ∷ t → slice_get b (length w) ≡ Some y → y ≡ x
next_body b c w t x y whole here =
    let n = length w in
    sym (get_or_from_slice_get b n y Dominant here)
    ∙ sym (get_or_append_left b c Dominant n (slice_get_within b n y here))
    ∙ ap (λ l. level_at l n) whole ∙ get_or-append_seam w x t Dominant

-- ---- in the stuffed part

-- after five equal levels the other one comes
pub stuff_next : {f : FrameValue} {b c l w part : List Level} {last : Level} {n : ℕ} (t : List Level) (x : Level) →
    BeginsPart l w last n → n ≡ 5 →
    StuffedPart f b c part → part ≡ l ++ x ∷ t → opposite last ≡ x
stuff_next {f = f} {b = b} {c = c} {l = l} {last = last} {n = n} t x h five part whole =
    let leads = (holds_by h.so_far).leads in
    let P : List Level → Type 0 = λ p. StuffedPart f b c p in
    sym (other-opposite x last (λ like.
    let six : run (x ∷ reverse l) ≡ 6 =
    ap (λ y. run (y ∷ reverse l)) like ∙ lead-same last n (reverse l) leads ∙ omega (arith, five) in
    six_in_part l x t (subst P (whole ∙ sym (append_assoc l (x ∷ []) t)) part) (omega (arith, six))))

-- and else the next level of body and CRC sequence
pub plain_next : {f : FrameValue} {b c l w part : List Level} {last : Level} {n : ℕ} (t : List Level) (x : Level) →
    BeginsPart l w last n → n ≢ 5 →
    StuffedPart f b c part → part ≡ l ++ x ∷ t → (rest : List Level) × (b ++ c ≡ w ++ x ∷ rest)
plain_next {l = l} {w = w} {last = last} {n = n} t x h less part whole =
    let past = reverse l in
    let holds = holds_by h.so_far in
    let most = holds.most in
    let few : run past < 5 = omega (arith, inside_run h, less, most) in
    let (e, grown) = unstuffed-next (reverse t) x past few in
    let turned = ap reverse whole ∙ reverse-append l (x ∷ t) ∙ ap (λ q. q ++ past) (reverse-cons x t) in (
      reverse e,
      sym (plain-part part) ∙ ap plain turned ∙ ap reverse grown ∙ reverse-append e (x ∷ unstuffed past)
          ∙ ap (λ q. q ++ reverse e) (reverse-cons x (unstuffed past)) ∙ append_assoc (plain past) (x ∷ []) (reverse e)
          ∙ ap (λ v. v ++ x ∷ reverse e) (sym holds.plain_is),
    )

-- ---- in the whole line

-- what begins a line with a right CRC sequence is right so far
pub sent_readable : {f : FrameValue} {b c part : List Level} (l others : List Level) (ack : Level) →
    StuffedPart f b c part → Crc b c →
    part ++ tail ack ≡ l ++ others → IsReadable l
sent_readable {f = f} {b = b} {c = c} {part = part} l others ack is_part right whole = record {
  begun = record {
    frame = f;
    body = b;
    check = c;
    ack = ack;
    rest = others;
    line = record { part = part; is_part = is_part; whole = sym whole };
  };
  right = λ few. right;
}

-- before the end of the stuffed part the next level belongs to it
pub sent_inside : {f : FrameValue} {b c part : List Level} (l others before rest : List Level) (x ack : Level) →
    (IsPastPart l → ⊥) →
    StuffedPart f b c part → part ++ tail ack ≡ l ++ others → part ++ tail Recessive ≡ before ++ x ∷ rest →
    length before ≡ length l →
    (t : List Level) × (part ≡ l ++ x ∷ t)
sent_inside {f = f} {b = b} {c = c} {part = part} l others before rest x ack none is_part seen sent count =
    let past : (after : List Level) → l ≡ part ++ after → ⊥ = λ after whole.
    none (record { frame = f; body = b; check = c; part = part; rest = after; is_part = is_part; whole = whole }) in
    elim (fronts part l (tail ack) others seen) [
      | inl longer ↦ absurd (past longer.0 longer.1)
      | inr shorter ↦ elim (cases_list shorter.0) [
        | inl empty ↦
            absurd (past [] (sym (append-nil l) ∙ ap (λ q. l ++ q) (sym empty) ∙ sym shorter.1 ∙ sym (append-nil part)))
        | inr some ↦
            let split : part ≡ l ++ some.0 ∷ some.1 = shorter.1 ∙ ap (λ q. l ++ q) some.2 in
            let both : l ++ some.0 ∷ (some.1 ++ tail Recessive) ≡ before ++ x ∷ rest =
            sym (append_assoc l (some.0 ∷ some.1) (tail Recessive)) ∙ ap (λ q. q ++ tail Recessive) (sym split)
            ∙ sent in
            let parts = append-split l (some.0 ∷ (some.1 ++ tail Recessive)) before (x ∷ rest) (sym count) both in
            let here = parts.1 in
            let same : some.0 ≡ x = cc in
            (some.1, split ∙ ap (λ y. l ++ y ∷ some.1) same)
      ]
    ]

-- past the stuffed part a transmitter sends recessive levels
pub sent_past : {f : FrameValue} {b c part : List Level} {g : BodyWord} {came : ℕ} (n : ℕ)
    (l others before rest : List Level) (x ack : Level) →
    IsPast n g came l → StuffedPart f b c part → part ++ tail ack ≡ l ++ others →
    part ++ tail Recessive ≡ before ++ x ∷ rest →
    length before ≡ length l → Recessive ≡ x
sent_past {part = part} n l others before rest x ack h is_part seen sent count =
    let after = take n (tail h.ack) in
    let both : h.part ++ (after ++ others) ≡ part ++ tail ack =
    sym (append_assoc h.part after others) ∙ ap (λ m. m ++ others) (sym h.whole) ∙ sym seen in
    let same : h.part ≡ part = same_part (after ++ others) (tail ack) h.is_part is_part both in
    let k = length before in
    let begun : length part ≤ k = omega (arith, count, ap length h.whole, length-append h.part after, ap length same) in
    let within : k - length part < 10 =
    omega (arith, ap length sent, length-append part (tail Recessive), length-append before (x ∷ rest)) in
    sym (get_or-replicate 10 (k - length part) Recessive Dominant within)
    ∙ sym (get_or-append_right part (tail Recessive) (length part) k Dominant refl begun)
    ∙ ap (λ m. level_at m k) sent ∙ get_or-append_seam before x rest Dominant
