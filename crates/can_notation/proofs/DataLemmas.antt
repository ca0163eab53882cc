-- Data bytes as text: two digits each, so that a text has one list of bytes.
use Rattle.std.proofs.Common.{◌≡◌, ◌≢◌, ◌+◌, ◌*◌, ◌^◌, ◌<◌, ◌≤◌, ◌∙◌, ℕ, zero, suc, All}
use Rattle.std.proofs.Common.{List, [], ◌∷◌, ◌++◌, length, take, drop, get_or, refl, sym, ap, ap₂, arith}
use Rattle.std.proofs.lemmas.List.{length-map, length-take, length-drop, map-append, flat_map_more, take-map, drop-map}
use Rattle.std.proofs.Math.Seq.{take-add}
use Rattle.std.proofs.lemmas.List.Elements.{All-head, All-tail, All-push}
use Rattle.lemmas.proofs.Lists.{append-split}
use Rattle.can_notation.specs.Digits.{digits_of, capital, capitals}
use Rattle.can_notation.specs.Text.{data_text}
use Rattle.can_notation.proofs.DigitLemmas.{digits_of-injective, capitals-digits_of}

-- each one is a byte
abbrev pub AreBytes : List ℕ → Type 0
AreBytes bytes = All (λ byte. byte < 256) bytes

-- two digits a byte
pub length-data_text : (bytes : List ℕ) → length (data_text bytes) ≡ 2 * length bytes
length-data_text [] = refl
length-data_text (b ∷ bytes) = let rest = length-data_text bytes in omega (arith, rest)

-- as many bytes as half the characters
pub length_from_text : (text bytes : List ℕ) → capitals text ≡ data_text bytes → length text ≡ 2 * length bytes
length_from_text text bytes e = sym (length-map text capital) ∙ ap length e ∙ length-data_text bytes

-- they are their own capitals
pub capitals-data_text : (bytes : List ℕ) → capitals (data_text bytes) ≡ data_text bytes
capitals-data_text [] = refl
capitals-data_text (b ∷ bytes) =
    map-append capital (digits_of 2 b) (data_text bytes)
    ∙ ap₂ (λ l r. l ++ r) (capitals-digits_of 2 b) (capitals-data_text bytes)

-- the two digits of the byte at a place
pub data_text-at : (bytes : List ℕ) (i : ℕ) → i < length bytes →
    take 2 (drop (2 * i) (data_text bytes)) ≡ digits_of 2 (get_or bytes i 0)
data_text-at [] i h = absurd (omega arith)
data_text-at (b ∷ bytes) zero h = refl
data_text-at (b ∷ bytes) (suc i) h =
    let two : 2 * suc i ≡ suc (suc (2 * i)) = omega arith in
    rw two (data_text-at bytes i (omega arith))

-- a text says one list of bytes
pub data_text-injective : (xs ys : List ℕ) → AreBytes xs → AreBytes ys → data_text xs ≡ data_text ys → xs ≡ ys
data_text-injective [] [] hx hy e = refl
data_text-injective [] (c ∷ ys) hx hy e = cc e
data_text-injective (b ∷ xs) [] hx hy e = cc e
data_text-injective (b ∷ xs) (c ∷ ys) hx hy e =
    let (pair, rest) = append-split (digits_of 2 b) (data_text xs) (digits_of 2 c) (data_text ys) refl e in
    let first : b ≡ c = digits_of-injective 2 b c (All-head (λ byte. byte < 256) b xs hx)
    (All-head (λ byte. byte < 256) c ys hy) pair in
    ap₂ (λ h t. h ∷ t) first (data_text-injective xs ys (All-tail (λ byte. byte < 256) b xs hx)
    (All-tail (λ byte. byte < 256) c ys hy) rest)

-- one byte more was read
pub data_more : (text bytes : List ℕ) (i n : ℕ) → capitals (take (2 * i) text) ≡ data_text bytes →
    capitals (take 2 (drop (2 * i) text)) ≡ digits_of 2 n →
    capitals (take (2 * (i + 1)) text) ≡ data_text (bytes ++ n ∷ [])
data_more text bytes i n front pair =
    let two : 2 * (i + 1) ≡ 2 * i + 2 = omega arith in
    ap (λ k. capitals (take k text)) two ∙ ap capitals (take-add (2 * i) 2 text)
    ∙ map-append capital (take (2 * i) text) (take 2 (drop (2 * i) text)) ∙ ap₂ (λ l r. l ++ r) front pair
    ∙ flat_map_more (λ byte. digits_of 2 byte) [] bytes n

-- the two characters at a place are the digits of the byte there
pub data-at : (text bytes : List ℕ) (i : ℕ) → capitals text ≡ data_text bytes → i < length bytes →
    capitals (take 2 (drop (2 * i) text)) ≡ digits_of 2 (get_or bytes i 0)
data-at text bytes i e h =
    sym (take-map capital 2 (drop (2 * i) text)) ∙ ap (take 2) (sym (drop-map capital (2 * i) text))
    ∙ ap (λ l. take 2 (drop (2 * i) l)) e ∙ data_text-at bytes i h

-- two characters at a place
pair_size : (text : List ℕ) (i k : ℕ) → k ≡ 2 → 2 * i + 2 ≤ length text → length (take k (drop (2 * i) text)) ≡ 2
pair_size text i k two within = omega (arith, length-take k (drop (2 * i) text), length-drop (2 * i) text)

-- a pair that is no byte is in no text of bytes
pub no_pair : (text : List ℕ) (i k : ℕ) → k ≡ 2 → 2 * i + 2 ≤ length text →
    ((n : ℕ) → capitals (take k (drop (2 * i) text)) ≢ digits_of (length (take k (drop (2 * i) text))) n) →
    (bytes : List ℕ) → capitals text ≢ data_text bytes
no_pair text i k two within none bytes e =
    let size = pair_size text i k two within in
    let len = length_from_text text bytes e in
    none (get_or bytes i 0)
    (ap (λ m. capitals (take m (drop (2 * i) text))) two ∙ data-at text bytes i e (omega (arith, len))
    ∙ ap (λ m. digits_of m (get_or bytes i 0)) (sym size))

-- a pair that is a byte was read
pub pair_more : (text bytes : List ℕ) (i k n : ℕ) → k ≡ 2 → 2 * i + 2 ≤ length text → AreBytes bytes →
    capitals (take (2 * i) text) ≡ data_text bytes → n < 16 ^ length (take k (drop (2 * i) text)) →
    capitals (take k (drop (2 * i) text)) ≡ digits_of (length (take k (drop (2 * i) text))) n →
    AreBytes (bytes ++ n ∷ []) × (capitals (take (2 * (i + 1)) text) ≡ data_text (bytes ++ n ∷ []))
pair_more text bytes i k n two within fit front small pair =
    let size = pair_size text i k two within in
    let byte : n < 256 = rw size at small in (
      All-push (λ byte. byte < 256) bytes n fit byte,
      data_more text bytes i n front
          (ap (λ m. capitals (take m (drop (2 * i) text))) (sym two) ∙ pair ∙ ap (λ m. digits_of m n) size),
    )
