-- An identifier's text says format and identifier.
use Rattle.std.proofs.Common.{◌≡◌, ◌≢◌, ◌^◌, ◌<◌, ◌≤◌, ◌∙◌, ℕ, Bool, true, false, List, length, refl, sym, ap, arith}
use Rattle.can_frame.specs.Frame.{id_limit}
use Rattle.can_notation.specs.Digits.{digits_of, capitals}
use Rattle.can_notation.specs.Text.{identifier_digits, identifier_text}
use Rattle.can_notation.proofs.DigitLemmas.{length-digits_of, digits_of-injective}

-- an identifier fits its digits
pub fits_digits : (ext : Bool) (id : ℕ) → id < id_limit ext → id < 16 ^ identifier_digits ext
fits_digits false id h = omega arith
fits_digits true id h = omega arith

-- equally many digits are of one format
same_format : (a b : Bool) → identifier_digits a ≡ identifier_digits b → a ≡ b
same_format false false e = refl
same_format true true e = refl
same_format false true e = absurd (omega arith)
same_format true false e = absurd (omega arith)

-- a text says one identifier
pub identifier_text-injective : (a b : Bool) (m n : ℕ) → m < 16 ^ identifier_digits a → n < 16 ^ identifier_digits b →
    identifier_text a m ≡ identifier_text b n → (a ≡ b) × (m ≡ n)
identifier_text-injective a b m n hm hn e =
    let format : a ≡ b = same_format a b (sym (length-digits_of (identifier_digits a) m) ∙ ap length e
    ∙ length-digits_of (identifier_digits b) n) in
    let digits = e ∙ ap (λ f. identifier_text f n) (sym format) in
    (format, digits_of-injective (identifier_digits a) m n hm (rw format hn) digits)

-- digits of a number past the limit are the identifier of no frame
pub past_limit : (text : List ℕ) (a : Bool) (n : ℕ) → length text ≡ identifier_digits a → id_limit a ≤ n →
    n < 16 ^ length text → capitals text ≡ digits_of (length text) n →
    (b : Bool) (id : ℕ) → id < id_limit b → capitals text ≢ identifier_text b id
past_limit text a n len past small said b id few e =
    let small_there : n < 16 ^ identifier_digits a = rw len at small in
    let (format, same) = identifier_text-injective a b n id small_there (fits_digits b id few)
    (ap (λ k. digits_of k n) (sym len) ∙ sym said ∙ e) in
    omega (arith, ap id_limit format)
