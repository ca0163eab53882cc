-- The text of a frame is ASCII.
use Rattle.std.proofs.Common.{◌≡◌, ◌<◌, ◌/◌, ◌%◌, ℕ, zero, suc, Bool, true, false, min, nat_lt}
use Rattle.std.proofs.Common.{List, [], ◌∷◌, arith, sym, subst}
use Rattle.std.specs.Prelude.{◌==◌, if◌then◌else◌}
use Rattle.std.specs.Str.{IsAscii}
use Rattle.std.proofs.lemmas.Str.{IsAscii-append}
use Rattle.std.proofs.lemmas.Str.Ascii.{IsAscii-nil, IsAscii-cons, IsAscii-push}
use Rattle.can_frame.specs.Frame.{FrameValue, IsFrame}
use Rattle.can_notation.specs.Digits.{digit_of, digits_of}
use Rattle.can_notation.specs.Text.{hash, remote_mark, dlc_mark, identifier_digits, data_text, count_text}
use Rattle.can_notation.specs.Text.{long_dlc_text, body_text, rest_text, text}
use Rattle.can_notation.proofs.DigitLemmas.{digit_of-small}

-- a digit
small_digit : (n : ℕ) → n < 16 → digit_of n < 128
small_digit n h = let d = digit_of-small n h in omega (arith, d.1)

one_digit : (n : ℕ) → n < 16 → IsAscii (digit_of n ∷ [])
one_digit n h = IsAscii-cons (digit_of n) [] (small_digit n h) IsAscii-nil

-- several
digits : (count n : ℕ) → IsAscii (digits_of count n)
digits zero n = IsAscii-nil
digits (suc count) n =
    IsAscii-push (digits_of count (n / 16)) (digit_of (n % 16)) (digits count (n / 16))
    (small_digit (n % 16) (omega arith))

-- data bytes
data_bytes : (bytes : List ℕ) → IsAscii (data_text bytes)
data_bytes [] = IsAscii-nil
data_bytes (b ∷ bytes) = IsAscii-append (digits_of 2 b) (data_text bytes) (digits 2 b) (data_bytes bytes)

-- how many a remote frame asks for
unless_true : (test : Bool) (said : List ℕ) → IsAscii said → IsAscii (if test then [] else said)
unless_true true said h = IsAscii-nil
unless_true false said h = h

count : (n : ℕ) → n < 16 → IsAscii (count_text n)
count n h = unless_true (n == 0) (digit_of n ∷ []) (one_digit n h)

-- a DLC above 8
where_true : (test : Bool) (said : List ℕ) → IsAscii said → IsAscii (if test then said else [])
where_true true said h = h
where_true false said h = IsAscii-nil

long_dlc : (dlc : ℕ) → dlc < 16 → IsAscii (long_dlc_text dlc)
long_dlc dlc h =
    where_true (nat_lt 8 dlc) (dlc_mark ∷ digit_of dlc ∷ [])
    (IsAscii-cons dlc_mark (digit_of dlc ∷ []) (omega arith) (one_digit dlc h))

-- what stands for the data
at_most : (dlc : ℕ) → dlc < 16 → min dlc 8 < 16
at_most dlc h = grind arith

body : (rtr : Bool) (dlc : ℕ) (bytes : List ℕ) → dlc < 16 → IsAscii (body_text rtr dlc bytes)
body false dlc bytes h = data_bytes bytes
body true dlc bytes h =
    IsAscii-cons remote_mark (count_text (min dlc 8)) (omega arith) (count (min dlc 8) (at_most dlc h))

-- the whole
text_is_ascii : (f : FrameValue) → f.dlc < 16 → IsAscii (text f)
text_is_ascii f h =
    let rest = rest_text f.rtr f.dlc f.bytes in
    IsAscii-append (digits_of (identifier_digits f.ext) f.id) (hash ∷ rest) (digits (identifier_digits f.ext) f.id)
    (IsAscii-cons hash rest (omega arith)
    (IsAscii-append (body_text f.rtr f.dlc f.bytes) (long_dlc_text f.dlc) (body f.rtr f.dlc f.bytes h)
    (long_dlc f.dlc h)))

-- characters that are the text of a frame
pub ascii_text : (f : FrameValue) (characters : List ℕ) → IsFrame f → characters ≡ text f → IsAscii characters
ascii_text f characters valid is = subst IsAscii (sym is) (text_is_ascii f valid.dlc)
