-- The bytes of a message, and its frame in can-utils' notation.
use Rattle.std.proofs.Common.{◌≡◌, ◌==◌, ◌<◌, ◌≤◌, ◌/◌, ◌%◌, ◌+◌, ◌*◌, ◌∙◌, ◌⊎◌, ℕ, zero, suc, Bool, true, false, not}
use Rattle.std.proofs.Common.{inl, inr, nat_lt, min, List, [], ◌∷◌, ◌++◌, length, take, All, slice_index, refl, sym, ap}
use Rattle.std.proofs.Common.{ap₂, subst, arith}
use Rattle.std.specs.Prelude.{if◌then◌else◌}
use Rattle.std.proofs.lemmas.Bool.{cases_lt}
use Rattle.std.proofs.lemmas.Bool.Decides.{nat_tests}
use Rattle.std.proofs.lemmas.List.{get_or_past, map-append, take_all}
use Rattle.can_frame.specs.Frame.{FrameValue, IsFrame, id_limit, data_count}
use Rattle.can_frame.specs.Message.{bit, head_of, message, IsMessage}
use Rattle.can_frame.specs.Buffer.{frame_in}
use Rattle.can_notation.specs.Digits.{capital, digit_of, digits_of}
use Rattle.can_notation.specs.Text.{hash, identifier_digits, identifier_text, data_text, long_dlc_text}
use Rattle.can_notation.specs.Text.{body_text, rest_text, text, Says}
use Rattle.can_notation.proofs.DigitLemmas.{capitals-digits_of}
use Rattle.can_notation.proofs.RestLemmas.{capitals-rest_text}
use Rattle.hex.specs.Hex.{IsBytes}
use Rattle.sja_plan_reading.specs.Words.{Text}
use Rattle.sja_plan_reading.specs.Messages.{SaysMessage}
use Rattle.sja_plan_text.specs.Names.{message_word}
use Rattle.sja_plan_text.proofs.Spelling.Words.{is_word, without_both}

bit_small : (b : Bool) → bit b ≤ 1
bit_small true = omega arith
bit_small false = omega arith

all_bytes : (xs : List ℕ) → All (λ (byte : ℕ). byte < 256) xs → IsBytes xs
all_bytes xs h k = by_place (cases_lt k (length xs))
  where
    by_place : (k < length xs) ⊎ (length xs ≤ k) → slice_index xs k < 256
    by_place (inl within) = h k 0 within
    by_place (inr past) = omega (arith, get_or_past xs k 0 past)

by_format : (ext : Bool) (id : ℕ) (rtr : Bool) (dlc : ℕ) (bytes : List ℕ) → id < id_limit ext → dlc < 16 →
    IsBytes bytes → IsBytes (head_of ext id rtr dlc ++ bytes)
by_format false id rtr dlc bytes small few fit zero = omega (arith, bit_small rtr)
by_format false id rtr dlc bytes small few fit (suc zero) = omega arith
by_format false id rtr dlc bytes small few fit (suc (suc zero)) = omega (arith, bit_small rtr)
by_format false id rtr dlc bytes small few fit (suc (suc (suc k))) = fit k
by_format true id rtr dlc bytes small few fit zero = omega (arith, bit_small rtr)
by_format true id rtr dlc bytes small few fit (suc zero) = omega arith
by_format true id rtr dlc bytes small few fit (suc (suc zero)) = omega arith
by_format true id rtr dlc bytes small few fit (suc (suc (suc zero))) = omega arith
by_format true id rtr dlc bytes small few fit (suc (suc (suc (suc zero)))) = omega (arith, bit_small rtr)
by_format true id rtr dlc bytes small few fit (suc (suc (suc (suc (suc k))))) = fit k

pub message_bytes : (m : List ℕ) → IsMessage m → IsBytes m
message_bytes m (f, valid, is) =
    rw is (by_format f.ext f.id f.rtr f.dlc f.bytes valid.id valid.dlc (all_bytes f.bytes valid.bytes))

-- ---- the frame of a message

is_bit : (n : ℕ) (b : Bool) → n ≡ bit b → (n == 1) ≡ b
is_bit n true h = ap (λ k. k == 1) h
is_bit n false h = ap (λ k. k == 1) h

standard : (id dlc : ℕ) (rtr : Bool) (bytes : List ℕ) → id < 2048 → dlc < 16 → length bytes ≡ data_count rtr dlc →
    frame_in (head_of false id rtr dlc ++ bytes)
    ≡ record { ext = false; id = id; rtr = rtr; dlc = dlc; bytes = bytes }
standard id dlc rtr bytes small few count =
    let b = bit_small rtr in
    let ext_is : ((64 * bit rtr + dlc) / 128 % 2 == 1) ≡ false = is_bit _ false (omega (arith, b)) in
    let rtr_is : ((64 * bit rtr + dlc) / 64 % 2 == 1) ≡ rtr = is_bit _ rtr (omega (arith, b)) in
    let dlc_is : (64 * bit rtr + dlc) % 16 ≡ dlc = omega (arith, b) in
    let id_is : id / 8 * 8 + (32 * (id % 8) + 16 * bit rtr) / 32 ≡ id = omega (arith, b) in
    let bytes_are : take (data_count rtr dlc) bytes ≡ bytes = take_all (data_count rtr dlc) bytes (omega arith) in
    rw (ext_is, rtr_is, dlc_is, id_is, bytes_are) refl

extended : (id dlc : ℕ) (rtr : Bool) (bytes : List ℕ) → id < 536870912 → dlc < 16 →
    length bytes ≡ data_count rtr dlc →
    frame_in (head_of true id rtr dlc ++ bytes)
    ≡ record { ext = true; id = id; rtr = rtr; dlc = dlc; bytes = bytes }
extended id dlc rtr bytes small few count =
    let b = bit_small rtr in
    let ext_is : ((128 + 64 * bit rtr + dlc) / 128 % 2 == 1) ≡ true = is_bit _ true (omega (arith, b)) in
    let rtr_is : ((128 + 64 * bit rtr + dlc) / 64 % 2 == 1) ≡ rtr = is_bit _ rtr (omega (arith, b)) in
    let dlc_is : (128 + 64 * bit rtr + dlc) % 16 ≡ dlc = omega (arith, b) in
    let id_is : id / 2097152 * 2097152 + id / 8192 % 256 * 8192 + id / 32 % 256 * 32 + (8 * (id % 32) + 4 * bit rtr) / 8
    ≡ id =
    omega (arith, b) in
    let bytes_are : take (data_count rtr dlc) bytes ≡ bytes = take_all (data_count rtr dlc) bytes (omega arith) in
    rw (ext_is, rtr_is, dlc_is, id_is, bytes_are) refl

by_kind : (ext : Bool) (id dlc : ℕ) (rtr : Bool) (bytes : List ℕ) → id < id_limit ext → dlc < 16 →
    length bytes ≡ data_count rtr dlc →
    frame_in (head_of ext id rtr dlc ++ bytes) ≡ record { ext = ext; id = id; rtr = rtr; dlc = dlc; bytes = bytes }
by_kind false id dlc rtr bytes small few count = standard id dlc rtr bytes small few count
by_kind true id dlc rtr bytes small few count = extended id dlc rtr bytes small few count

-- the frame that the message of a frame has is that frame
frame_found : (f : FrameValue) → IsFrame f → frame_in (message f) ≡ f
frame_found f valid = by_kind f.ext f.id f.dlc f.rtr f.bytes valid.id valid.dlc valid.count

-- ---- its notation

-- the text of a frame is the word of its message
pub frame_text : (f : FrameValue) (m : List ℕ) → IsFrame f → message f ≡ m → text f ≡ message_word m
frame_text f m valid is = subst (λ l. text f ≡ message_word l) is (ap text (sym (frame_found f valid)))

says_itself : (f : FrameValue) → IsFrame f → Says (text f) f
says_itself f valid =
    map-append capital (identifier_text f.ext f.id) (hash ∷ rest_text f.rtr f.dlc f.bytes)
    ∙ ap₂ (λ l r. l ++ r) (capitals-digits_of (identifier_digits f.ext) f.id)
    (ap (λ r. hash ∷ r) (capitals-rest_text f.rtr f.dlc f.bytes valid.dlc))

-- and this word says the message
pub message_said : (m : List ℕ) → IsMessage m → SaysMessage (message_word m) m
message_said m (f, valid, is) =
    (f, valid, subst (λ l. Says l f) (frame_text f m valid (sym is)) (says_itself f valid), is)

-- ---- it is one word

no_space_digit : (n : ℕ) → not (digit_of n == 32) ≡ true
no_space_digit n = grind (arith, nat_tests)

digits_are_word : (count n : ℕ) → is_word (digits_of count n) ≡ true
digits_are_word zero n = refl
digits_are_word (suc count) n =
    without_both 32 (digits_of count (n / 16)) (digit_of (n % 16) ∷ []) (digits_are_word count (n / 16))
    (rw (no_space_digit (n % 16)) refl)

data_is_word : (bytes : List ℕ) → is_word (data_text bytes) ≡ true
data_is_word [] = refl
data_is_word (b ∷ bytes) =
    without_both 32 (digits_of 2 b) (data_text bytes) (digits_are_word 2 b) (data_is_word bytes)

unless_true : (test : Bool) (said : Text) → is_word said ≡ true → is_word (if test then [] else said) ≡ true
unless_true true said h = refl
unless_true false said h = h

where_true : (test : Bool) (said : Text) → is_word said ≡ true → is_word (if test then said else []) ≡ true
where_true true said h = h
where_true false said h = refl

body_is_word : (rtr : Bool) (dlc : ℕ) (bytes : List ℕ) → is_word (body_text rtr dlc bytes) ≡ true
body_is_word false dlc bytes = data_is_word bytes
body_is_word true dlc bytes =
    unless_true (min dlc 8 == 0) (digit_of (min dlc 8) ∷ []) (rw (no_space_digit (min dlc 8)) refl)

rest_is_word : (rtr : Bool) (dlc : ℕ) (bytes : List ℕ) → is_word (rest_text rtr dlc bytes) ≡ true
rest_is_word rtr dlc bytes =
    without_both 32 (body_text rtr dlc bytes) (long_dlc_text dlc) (body_is_word rtr dlc bytes)
    (where_true (nat_lt 8 dlc) _ (rw (no_space_digit dlc) refl))

pub message_is_word : (m : List ℕ) → is_word (message_word m) ≡ true
message_is_word m =
    let f = frame_in m in
    without_both 32 (identifier_text f.ext f.id) (hash ∷ rest_text f.rtr f.dlc f.bytes)
    (digits_are_word (identifier_digits f.ext) f.id) (rest_is_word f.rtr f.dlc f.bytes)
