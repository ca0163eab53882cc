-- The bytes of a line.
use Rattle.std.proofs.Common.{◌≡◌, ℕ, zero, suc, ◌+◌, ◌<◌, ◌≤◌, false, [], ◌∷◌, ◌++◌, length, take, refl}
use Rattle.std.proofs.Common.{sym, ap, ◌∙◌, subst, arith, ne_eqb}
use Rattle.std.proofs.Math.Seq.{take-nil}
use Rattle.std.specs.Prelude.{◌==◌, if◌then◌else◌, Option, Some, None, IsUtf8}
use Rattle.std.proofs.lemmas.List.{append_assoc, append-nil, length-append, take_all}
use Rattle.sja_live.specs.Inside.Reading.{HasRead, IsLine, IsLineOf, IsLineReadable, IsWithin, TakesByte, TakesLine}
use Rattle.sja_live.specs.Lines.{most_line, first_line, behind_line, HasNoFeed, IsReadable}
use Rattle.sja_live.specs.declared.next_line.Line.{Line}
use Rattle.sja_live.specs.declared.next_line.Line.TheVariants.{Text as LineOf, Long, NoText, Over}
use Rattle.sja_plan_reading.specs.Words.{Text}

-- ---- a line ends with a line feed or with the text

feed_first : (front left : Text) → HasNoFeed front → first_line (front ++ 10 ∷ left) ≡ front
feed_first [] left plain = refl
feed_first (b ∷ front) left plain =
    ap (λ c. if c then [] else b ∷ first_line (front ++ 10 ∷ left)) plain.0
    ∙ ap (λ l. b ∷ l) (feed_first front left plain.1)

feed_behind : (front left : Text) → HasNoFeed front → behind_line (front ++ 10 ∷ left) ≡ left
feed_behind [] left plain = refl
feed_behind (b ∷ front) left plain =
    ap (λ c. if c then front ++ 10 ∷ left else behind_line (front ++ 10 ∷ left)) plain.0
    ∙ feed_behind front left plain.1

last_first : (front : Text) → HasNoFeed front → first_line front ≡ front
last_first [] plain = refl
last_first (b ∷ front) plain =
    ap (λ c. if c then [] else b ∷ first_line front) plain.0 ∙ ap (λ l. b ∷ l) (last_first front plain.1)

last_behind : (front : Text) → HasNoFeed front → behind_line front ≡ []
last_behind [] plain = refl
last_behind (b ∷ front) plain =
    ap (λ c. if c then front else behind_line front) plain.0 ∙ last_behind front plain.1

-- ---- bytes are read one after another

feed_more : (front : Text) (byte : ℕ) → HasNoFeed front → (byte == 10) ≡ false → HasNoFeed (front ++ byte ∷ [])
feed_more [] byte plain other = (other, tt)
feed_more (b ∷ front) byte plain other = (plain.0, feed_more front byte plain.1 other)

-- one more is kept where there is room, and none where there is none
pub take_room : (n : ℕ) (front : Text) (byte : ℕ) → length (take n front) < n →
    take n front ++ byte ∷ [] ≡ take n (front ++ byte ∷ [])
take_room zero front byte less = absurd (omega (arith, less))
take_room (suc n) [] byte less = ap (λ l. byte ∷ l) (sym (take-nil {A = ℕ} n))
take_room (suc n) (b ∷ front) byte less = ap (λ l. b ∷ l) (take_room n front byte (omega (arith, less)))

pub take_full : (n : ℕ) (front : Text) (byte : ℕ) → n ≤ length (take n front) →
    take n front ≡ take n (front ++ byte ∷ [])
take_full zero front byte full = refl
take_full (suc n) [] byte full = absurd (omega (arith, full))
take_full (suc n) (b ∷ front) byte full = ap (λ l. b ∷ l) (take_full n front byte (omega (arith, full)))

read_more : (before mid after : Option Text) (front : Text) (byte : ℕ) → HasRead before mid front →
    TakesByte mid after (Some byte) → HasRead before after (front ++ byte ∷ [])
read_more None mid after front byte h t = tt
read_more (Some input) None after front byte h t = absurd h
read_more (Some input) (Some rest) None front byte h t = absurd t
read_more (Some input) (Some rest) (Some left) front byte h t =
    h ∙ ap (λ l. front ++ l) t ∙ sym (append_assoc front (byte ∷ []) left)

-- one more, which is no line feed
pub within_more : (before mid after : Option Text) (was now : Text) (count byte : ℕ) →
    (w : IsWithin before mid was count) → TakesByte mid after (Some byte) → ¬ (byte ≡ 10) →
    now ≡ take most_line (w.front ++ byte ∷ []) → IsWithin before after now (count + 1)
within_more before mid after was now count byte w t other is = record {
  front = w.front ++ byte ∷ [];
  read = read_more before mid after w.front byte w.read t;
  plain = feed_more w.front byte w.plain (ne_eqb byte 10 other);
  is = is;
  many = let m = w.many in let n = length-append w.front (byte ∷ []) in omega (arith, m, n);
}

-- ---- the line

-- all bytes of a line that isn't too long were kept
pub kept_whole : (kept line : Text) → kept ≡ take most_line line → length line ≤ most_line → kept ≡ line
kept_whole kept line is few = is ∙ take_all most_line line few

some_front : (front left : Text) → ¬ (front ++ 10 ∷ left ≡ [])
some_front [] left e = absurd (let n = ap (λ l. length l) e in omega (arith, n))
some_front (b ∷ front) left e = absurd (let n = ap (λ l. length l) e in omega (arith, n))

line_by : (input left bytes : Text) (line : Line) → ¬ (input ≡ []) → first_line input ≡ bytes →
    behind_line input ≡ left → IsLineOf bytes line → IsLine input left line
line_by input left bytes (LineOf line) some first behind is = (some, is.0 ∙ sym first, sym behind)
line_by input left bytes Long some first behind is =
    (some, subst (λ l. most_line < length l) (sym first) is, sym behind)
line_by input left bytes NoText some first behind is =
    (some, subst (λ l. length l ≤ most_line) (sym first) is.0, subst (λ l. ¬ IsUtf8 l) (sym first) is.1, sym behind)
line_by input left bytes Over some first behind is = absurd is

-- a line feed was read
pub takes_line : (before mid after : Option Text) (kept : Text) (count byte : ℕ) (line : Line) →
    (w : IsWithin before mid kept count) → TakesByte mid after (Some byte) → byte ≡ 10 → IsLineOf w.front line →
    TakesLine before after line
takes_line before mid after kept count byte line w t feed is =
    by before mid after w.front w.plain w.read (subst (λ b. TakesByte mid after (Some b)) feed t) is
  where
    by : (before mid after : Option Text) (front : Text) → HasNoFeed front → HasRead before mid front →
        TakesByte mid after (Some 10) → IsLineOf front line → TakesLine before after line
    by None mid after front plain h t is = tt
    by (Some input) None after front plain h t is = absurd h
    by (Some input) (Some rest) None front plain h t is = absurd t
    by (Some input) (Some rest) (Some left) front plain h t is =
        let e : input ≡ front ++ 10 ∷ left = h ∙ ap (λ l. front ++ l) t in
        line_by input left front line (λ none. some_front front left (sym e ∙ none))
        (ap first_line e ∙ feed_first front left plain) (ap behind_line e ∙ feed_behind front left plain) is

-- the text was over behind some bytes
pub takes_last : (before mid after : Option Text) (kept : Text) (count : ℕ) (line : Line) →
    (w : IsWithin before mid kept count) → 0 < count → TakesByte mid after None → IsLineOf w.front line →
    TakesLine before after line
takes_last before mid after kept count line w some t is =
    by before mid after w.front w.plain w.read (let m = w.many in omega (arith, m, some)) t is
  where
    by : (before mid after : Option Text) (front : Text) → HasNoFeed front → HasRead before mid front →
        0 < length front → TakesByte mid after None → IsLineOf front line → TakesLine before after line
    by None mid after front plain h some t is = tt
    by (Some input) None after front plain h some t is = absurd h
    by (Some input) (Some rest) None front plain h some t is = absurd t
    by (Some input) (Some rest) (Some left) front plain h some t is =
        let e : input ≡ front = h ∙ ap (λ l. front ++ l) t.0 ∙ append-nil front in
        line_by input left front line
        (λ none. let n = ap (λ l. length l) (sym e ∙ none) in absurd (omega (arith, n, some)))
        (ap first_line e ∙ last_first front plain) (ap behind_line e ∙ last_behind front plain ∙ sym t.1) is

-- the text was over
pub takes_none : (before mid after : Option Text) (kept : Text) → IsWithin before mid kept 0 →
    TakesByte mid after None → TakesLine before after Over
takes_none before mid after kept w t =
    by before mid after w.front w.read (let m = w.many in omega (arith, m)) t
  where
    empty : (front : Text) → length front ≡ 0 → front ≡ []
    empty [] e = refl
    empty (b ∷ front) e = absurd (omega (arith, e))

    by : (before mid after : Option Text) (front : Text) → HasRead before mid front → length front ≡ 0 →
        TakesByte mid after None → TakesLine before after Over
    by None mid after front h none t = tt
    by (Some input) None after front h none t = absurd h
    by (Some input) (Some rest) None front h none t = absurd t
    by (Some input) (Some rest) (Some left) front h none t =
        (h ∙ ap (λ l. l ++ rest) (empty front none) ∙ t.0, t.1)

pub takes_end : (before mid after : Option Text) (kept : Text) (count : ℕ) (line : Line) →
    (w : IsWithin before mid kept count) → TakesByte mid after None → (count ≡ 0 → line ≡ Over) →
    (0 < count → IsLineOf w.front line) → TakesLine before after line
takes_end before mid after kept zero line w t over some =
    subst (TakesLine before after) (sym (over refl)) (takes_none before mid after kept w t)
takes_end before mid after kept (suc n) line w t over some =
    takes_last before mid after kept (suc n) line w (omega arith) t (some (omega arith))

pub readable_line : (bytes : Text) (line : Line) → IsLineOf bytes line → IsLineReadable line
readable_line bytes (LineOf line) is = subst IsReadable (sym is.0) is.1
readable_line bytes Long is = tt
readable_line bytes NoText is = tt
readable_line bytes Over is = tt
