-- Words that are joined are found again, and numbers and bytes are words.
use Rattle.std.proofs.Common.{◌≡◌, ◌≢◌, ◌==◌, ◌&&◌, ◌≤◌, ◌<◌, ◌∙◌, ◌⊎◌, inl, inr, ℕ, zero, suc, Bool, true, false, not}
use Rattle.std.proofs.Common.{Some, List, [], ◌∷◌, ◌++◌, length, All, decimal, refl, ap, arith}
use Rattle.std.proofs.lemmas.Bool.{and_parts, eqb-true, not-true}
use Rattle.std.proofs.lemmas.Bool.Decides.{nat_tests, eqb_tells}
use Rattle.std.proofs.lemmas.Fmt.{digits_value-decimal, digits_decimal, decimal_nonempty, length-decimal-le}
use Rattle.std.proofs.lemmas.List.Elements.{All-nil, All-cons, All-head, All-tail}
use Rattle.std.proofs.lemmas.List.Splits.{slice_split_none, slice_split_at}
use Rattle.std.specs.List.{AllPass, slice_split, join_with_byte}
use Rattle.std.specs.Str.{all_ascii_digits}
use Rattle.std.specs.Str.Parse.{digits_value}
use Rattle.hex.specs.Hex.{IsBytes, encode_lower, is_hex_digit}
use Rattle.hex.proofs.HexLemmas.{decode_of-encode_lower, decode_of-ok}
use Rattle.sja_plan_reading.specs.Words.{Text, words, is_number, SpellsWithin}
use Rattle.sja_plan_reading.proofs.Spelling.Numbers.{own}
use Rattle.sja_steps.specs.StepText.{joined}

eqb-same : (n : ℕ) → (n == n) ≡ true
eqb-same n = by_case (eqb_tells n n)
  where
    by_case : (((n == n) ≡ true) × (n ≡ n)) ⊎ (((n == n) ≡ false) × (n ≢ n)) → (n == n) ≡ true
    by_case (inl h) = h.0
    by_case (inr h) = absurd (h.1 refl)

module _ (mark : ℕ) where
  -- the text is without this character
  abbrev pub is_without : Text → Bool
  is_without [] = true
  is_without (b ∷ bs) = not (b == mark) && is_without bs

  abbrev pub are_without : List Text → Bool
  are_without [] = true
  are_without (w ∷ ws) = is_without w && are_without ws

  none_there : (w : Text) → is_without w ≡ true → All (λ (b : ℕ). (b == mark) ≡ false) w
  none_there [] h = All-nil (λ (b : ℕ). (b == mark) ≡ false)
  none_there (b ∷ bs) h =
      let (here, rest) = and_parts (not (b == mark)) (is_without bs) h in
      All-cons (λ (c : ℕ). (c == mark) ≡ false) b bs (not-true (b == mark) here) (none_there bs rest)

  -- texts with this character between two are found again
  pub parts_joined : (w : Text) (ws : List Text) → are_without (w ∷ ws) ≡ true →
      slice_split (λ b. b == mark) (join_with_byte mark (w ∷ ws)) ≡ w ∷ ws
  parts_joined w [] h = slice_split_none (λ b. b == mark) w (none_there w (and_parts (is_without w) true h).0)
  parts_joined w (v ∷ ws) h =
      let (here, rest) = and_parts (is_without w) (are_without (v ∷ ws)) h in
      slice_split_at (λ b. b == mark) w mark (join_with_byte mark (v ∷ ws)) (none_there w here) (eqb-same mark)
      ∙ ap (λ l. w ∷ l) (parts_joined v ws rest)

-- a text is without a character where both its parts are
pub without_both : (mark : ℕ) (a b : Text) → is_without mark a ≡ true → is_without mark b ≡ true →
    is_without mark (a ++ b) ≡ true
without_both mark [] b h k = k
without_both mark (x ∷ a) b h k =
    let (here, rest) = and_parts (not (x == mark)) (is_without mark a) h in
    rw (here, without_both mark a b rest k) refl

-- the text has no space
abbrev pub is_word : Text → Bool
is_word w = is_without 32 w

abbrev pub are_words : List Text → Bool
are_words ws = are_without 32 ws

-- joined words are found again
pub words_joined : (w : Text) (ws : List Text) → are_words (w ∷ ws) ≡ true → words (joined (w ∷ ws)) ≡ w ∷ ws
words_joined w ws h = parts_joined 32 w ws h

-- digits are a word
digits_word : (w : Text) → all_ascii_digits w ≡ true → is_word w ≡ true
digits_word [] h = refl
digits_word (b ∷ bs) h =
    let rest = digits_word bs (grind (arith, nat_tests)) in
    grind (arith, nat_tests, rest)

-- a number is a word
pub decimal_word : (n : ℕ) → n ≤ 9999999 → is_word (decimal n) ≡ true
decimal_word n h = digits_word (decimal n) (digits_decimal own n (omega arith))

-- seven digits spell it
pub is_number-decimal : (n : ℕ) → n ≤ 9999999 → is_number (decimal n) ≡ true
is_number-decimal n h =
    let some : 0 < length (decimal n) = decimal_nonempty n (omega arith) in
    let few : length (decimal n) ≤ 7 = length-decimal-le 7 n (omega arith) (omega arith) (omega arith) in
    let digits : all_ascii_digits (decimal n) ≡ true = digits_decimal own n (omega arith) in
    grind (arith, nat_tests, some, few, digits)

pub value-decimal : (n : ℕ) → n ≤ 9999999 → digits_value 10 (decimal n) ≡ n
value-decimal n h = digits_value-decimal own n (omega arith)

-- and this word spells it
pub spells : (least most n : ℕ) → n ≤ 9999999 → least ≤ n → n ≤ most → SpellsWithin least most (decimal n) n
spells least most n small low high =
    (rw (is_number-decimal n small) (ap Some (value-decimal n small)), low, high)

-- hexadecimal digits are a word
hex_is_no_space : (b : ℕ) → is_hex_digit b ≡ true → not (b == 32) ≡ true
hex_is_no_space b h = by_test (b == 32) refl
  where
    by_test : (t : Bool) → (b == 32) ≡ t → not (b == 32) ≡ true
    by_test true is = absurd (cc (rw (eqb-true b 32 is) at h))
    by_test false is = rw is refl

hex_word : (w : Text) → AllPass is_hex_digit w → is_word w ≡ true
hex_word [] h = refl
hex_word (b ∷ bs) h =
    rw (
      hex_is_no_space b (All-head (λ (c : ℕ). is_hex_digit c ≡ true) b bs h),
      hex_word bs (All-tail (λ (c : ℕ). is_hex_digit c ≡ true) b bs h),
    ) refl

-- bytes in hexadecimal digits are a word
pub encode_word : (bytes : List ℕ) → IsBytes bytes → is_word (encode_lower bytes) ≡ true
encode_word bytes h =
    let decoded = decode_of-encode_lower bytes h in
    hex_word (encode_lower bytes) (decode_of-ok (encode_lower bytes) bytes decoded).1

-- one byte
pub one_byte : (b : ℕ) → b < 256 → IsBytes (b ∷ [])
one_byte b h zero = h
one_byte b h (suc k) = omega arith
