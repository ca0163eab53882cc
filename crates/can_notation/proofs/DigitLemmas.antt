-- Digits, and the texts that they make: their length, their capitals, and that a text of digits has one number.
use Rattle.std.proofs.Common.{◌≡◌, ◌≢◌, ◌+◌, ◌*◌, ◌/◌, ◌%◌, ◌^◌, ◌<◌, ◌≤◌, ◌∙◌, ℕ, zero, suc, inl, inr, List, [], ◌∷◌}
use Rattle.std.proofs.Common.{◌++◌, length, take, get_or, refl, sym, ap, ap₂, add-one, arith, append_assoc}
use Rattle.std.proofs.lemmas.Bool.Decides.{nat_tests}
use Rattle.std.proofs.lemmas.Bool.{cases_lt}
use Rattle.std.proofs.lemmas.List.{map_more, map-append, length-append, get_or_append_left, get_or_push, get_or-map}
use Rattle.std.proofs.Math.Nat.{pow-le-pow_right}
use Rattle.lemmas.proofs.Lists.{append-split}
use Rattle.can_notation.specs.Digits.{digit_of, digits_of, capital, capitals}

-- a digit is that of one number
pub digit_of-injective : (m n : ℕ) → m < 16 → n < 16 → digit_of m ≡ digit_of n → m ≡ n
digit_of-injective m n hm hn e = grind (arith, nat_tests)

-- a digit is its own capital
pub capital-digit_of : (n : ℕ) → n < 16 → capital (digit_of n) ≡ digit_of n
capital-digit_of n h = grind (arith, nat_tests)

-- a digit is `0` to `9` or `A` to `F`
pub digit_of-small : (n : ℕ) → n < 16 → (48 ≤ digit_of n) × (digit_of n ≤ 70)
digit_of-small n h = grind (arith, nat_tests)

-- a text of digits is as long as asked for
pub length-digits_of : (count n : ℕ) → length (digits_of count n) ≡ count
length-digits_of zero n = refl
length-digits_of (suc count) n =
    let front = length-digits_of count (n / 16) in
    let whole = length-append (digits_of count (n / 16)) (digit_of (n % 16) ∷ []) in
    omega (arith, front, whole)

-- digits are their own capitals
pub capitals-digits_of : (count n : ℕ) → capitals (digits_of count n) ≡ digits_of count n
capitals-digits_of zero n = refl
capitals-digits_of (suc count) n =
    map-append capital (digits_of count (n / 16)) (digit_of (n % 16) ∷ [])
    ∙ rw (capitals-digits_of count (n / 16), capital-digit_of (n % 16) (omega arith)) refl

-- digits say one number
pub digits_of-injective : (count m n : ℕ) → m < 16 ^ count → n < 16 ^ count → digits_of count m ≡ digits_of count n →
    m ≡ n
digits_of-injective zero m n hm hn e = omega arith
digits_of-injective (suc count) m n hm hn e =
    let same : length (digits_of count (m / 16)) ≡ length (digits_of count (n / 16)) =
    length-digits_of count (m / 16) ∙ sym (length-digits_of count (n / 16)) in
    let (front, last) = append-split (digits_of count (m / 16)) (digit_of (m % 16) ∷ []) (digits_of count (n / 16))
    (digit_of (n % 16) ∷ []) same e in
    let high : m / 16 ≡ n / 16 =
    digits_of-injective count (m / 16) (n / 16) (omega arith) (omega arith) front in
    let low : m % 16 ≡ n % 16 =
    digit_of-injective (m % 16) (n % 16) (omega arith) (omega arith) (ap (λ l. get_or l 0 0) last) in
    omega arith

-- each place of a text of digits is a digit
pub digits_of-at : (count n i : ℕ) → i < count → (v : ℕ) × (v < 16) × (get_or (digits_of count n) i 0 ≡ digit_of v)
digits_of-at zero n i h = absurd (omega arith)
digits_of-at (suc count) n i h =
    let front : length (digits_of count (n / 16)) ≡ count = length-digits_of count (n / 16) in
    elim (cases_lt i count) [
      | inl within ↦
          let (v, small, e) = digits_of-at count (n / 16) i within in
          let here : i < length (digits_of count (n / 16)) = omega arith in
          (v, small, get_or_append_left (digits_of count (n / 16)) (digit_of (n % 16) ∷ []) 0 i here ∙ e)
      | inr last ↦
          (n % 16, omega arith, get_or_push (digits_of count (n / 16)) (digit_of (n % 16)) 0 i (omega arith))
    ]

-- the digits of a number with one more behind it
pub digits_of-more : (count n v : ℕ) → v < 16 →
    digits_of (count + 1) (n * 16 + v) ≡ digits_of count n ++ digit_of v ∷ []
digits_of-more count n v h =
    let high : (n * 16 + v) / 16 ≡ n = omega arith in
    let low : (n * 16 + v) % 16 ≡ v = omega arith in
    rw (add-one, high, low) refl

-- behind a text the digits of a number, and behind these its last two
two_more : (text : List ℕ) (count n high : ℕ) → high ≡ n / 16 / 16 →
    (text ++ digits_of count high) ++ digits_of 2 n ≡ text ++ digits_of (suc (suc count)) n
two_more text count n high is =
    append_assoc text (digits_of count high) (digits_of 2 n)
    ∙ ap (λ h. text ++ (digits_of count h ++ digits_of 2 n)) is
    ∙ ap (λ l. text ++ l) (sym (append_assoc (digits_of count (n / 16 / 16)) (digit_of (n / 16 % 16) ∷ [])
    (digit_of (n % 16) ∷ [])))

-- three digits, the first one by itself
pub three_digits : (text : List ℕ) (n a : ℕ) → a ≡ n / 256 →
    (text ++ digits_of 1 a) ++ digits_of 2 n ≡ text ++ digits_of 3 n
three_digits text n a first = two_more text 1 n a (omega (arith, first))

-- eight, two by two
pub eight_digits : (text : List ℕ) (n a b c : ℕ) → a ≡ n / 16777216 → b ≡ n / 65536 → c ≡ n / 256 →
    (((text ++ digits_of 2 a) ++ digits_of 2 b) ++ digits_of 2 c) ++ digits_of 2 n ≡ text ++ digits_of 8 n
eight_digits text n a b c first second third =
    ap (λ l. (l ++ digits_of 2 c) ++ digits_of 2 n) (two_more text 2 b a (omega (arith, first, second)))
    ∙ ap (λ l. l ++ digits_of 2 n) (two_more text 4 c b (omega (arith, second, third)))
    ∙ two_more text 6 n c (omega (arith, third))

-- one digit more, sixteen times the numbers
pow-more : (i : ℕ) → 16 ^ (i + 1) ≡ 16 * 16 ^ i
pow-more i = rw add-one (omega arith)

-- the numbers of `i` digits are among those of 8, and one digit more still fits 32 bits
pub room : (n i : ℕ) → n < 16 ^ i → i < 8 → n * 16 + 15 < 4294967296
room n i h below =
    let more : 16 ^ (i + 1) ≤ 16 ^ 8 = pow-le-pow_right (omega arith) {i = i + 1} {j = 8} (omega arith) in
    omega (arith, more, pow-more i)

-- one digit more was read
pub read_more : (text : List ℕ) (i n v : ℕ) → i < length text → n < 16 ^ i →
    capitals (take i text) ≡ digits_of i n → v < 16 → capital (get_or text i 0) ≡ digit_of v →
    (n * 16 + v < 16 ^ (i + 1)) × (capitals (take (i + 1) text) ≡ digits_of (i + 1) (n * 16 + v))
read_more text i n v within small front digit last = (
  omega (arith, pow-more i),
  map_more capital text i 0 within ∙ ap₂ (λ l d. l ++ d ∷ []) front last ∙ sym (digits_of-more i n v digit),
)

-- where a place is no digit the text is none of digits
pub no_digits : (text : List ℕ) (i : ℕ) → i < length text →
    ((v : ℕ) → v < 16 → capital (get_or text i 0) ≢ digit_of v) →
    (n : ℕ) → capitals text ≢ digits_of (length text) n
no_digits text i within none n e =
    let (v, small, is) = digits_of-at (length text) n i within in
    none v small (sym (get_or-map capital text i 0 0 within) ∙ ap (λ l. get_or l i 0) e ∙ is)
