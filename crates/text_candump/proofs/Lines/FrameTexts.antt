-- The numbers in a line, as they are written.
use Rattle.std.proofs.Common.{◌≡◌, ◌<◌, ◌+◌, ◌-◌, ◌/◌, ◌%◌, ◌^◌, ℕ, true, false, List, [], ◌∷◌, ◌++◌, length}
use Rattle.std.proofs.Common.{take, get_or, refl, sym, ap, ap₂, ◌∙◌, append-nil, append_assoc, arith}
use Rattle.std.specs.Prelude.{Bool, is_some, replicate, decimal}
use Rattle.std.specs.Fmt.{digits, padded_integral, format_spec, char_count}
use Rattle.std.proofs.lemmas.Fmt.{hex_byte}
use Rattle.std.proofs.lemmas.Grind.{flat_map-append}
use Rattle.std.proofs.lemmas.List.{take_more}
use Rattle.can_notation.specs.Digits.{digit_of, digits_of}
use Rattle.can_notation.specs.Text.{identifier_text, data_text}
use Rattle.text_candump.specs.declared.error_frame.ErrorFrame.{ErrorFrame}
use Rattle.text_candump.specs.declared.error_frame.ErrorFrame.TheVariants.{Told, BusOff, Restarted}
use Rattle.text_candump.specs.ErrorFrames.{error_flag, class_bits, is_of_controller, error_identifier}
use Rattle.text_candump.specs.Lines.{zero_padded}

-- what `{:010}` and `{:06}` write
pub decimal_zeros : (width n : ℕ) →
    padded_integral (format_spec 32 0 4 width (2 ^ 64 - 1)) false [] (decimal n) ≡ zero_padded width n
unfolding padded_integral char_count
decimal_zeros width n =
    let zeros : width - length (decimal n) - 0 - 0 ≡ width - length (decimal n) = omega arith in
    ap (λ k. replicate k 48 ++ (decimal n ++ [])) zeros
    ∙ ap (λ l. replicate (width - length (decimal n)) 48 ++ l) (append-nil (decimal n))

-- what `{:02X}` writes of a byte
byte_digits : (n : ℕ) → n < 256 →
    padded_integral (format_spec 32 0 4 2 (2 ^ 64 - 1)) false [] (digits 16 true n) ≡ digits_of 2 n
byte_digits n small =
    let high : n / 16 ≡ n / 16 % 16 = omega arith in
    hex_byte true n small ∙ ap (λ d. digit_of d ∷ digit_of (n % 16) ∷ []) high

-- what `{:08X}` writes of the identifier of an error frame, by its classes
told_digits : (lost controller bus_error : Bool) →
    padded_integral (format_spec 32 0 4 8 (2 ^ 64 - 1)) false []
    (digits 16 true (error_flag + class_bits lost controller bus_error))
    ≡ identifier_text true (error_flag + class_bits lost controller bus_error)
unfolding padded_integral char_count digits
told_digits true true true = refl
told_digits true true false = refl
told_digits true false true = refl
told_digits true false false = refl
told_digits false true true = refl
told_digits false true false = refl
told_digits false false true = refl
told_digits false false false = refl

pub identifier_digits : (e : ErrorFrame) →
    padded_integral (format_spec 32 0 4 8 (2 ^ 64 - 1)) false [] (digits 16 true (error_identifier e))
    ≡ identifier_text true (error_identifier e)
unfolding padded_integral char_count digits
identifier_digits (Told i) = told_digits (is_some i.lost) (is_of_controller i) (is_some i.bus_error)
identifier_digits BusOff = refl
identifier_digits Restarted = refl

-- one byte more
pub byte_next : (bytes : List ℕ) (i d : ℕ) (first old new : List ℕ) → i < length bytes → get_or bytes i d < 256 →
    old ≡ first ++ data_text (take i bytes) →
    new ≡ old ++ padded_integral (format_spec 32 0 4 2 (2 ^ 64 - 1)) false [] (digits 16 true (get_or bytes i d)) →
    new ≡ first ++ data_text (take (i + 1) bytes)
byte_next bytes i d first old new less small so_far wrote =
    let b = get_or bytes i d in
    let more : take (i + 1) bytes ≡ take i bytes ++ b ∷ [] = take_more bytes i d less in
    let last : data_text (b ∷ []) ≡ digits_of 2 b = append-nil (digits_of 2 b) in
    wrote ∙ ap₂ (λ o t. o ++ t) so_far (byte_digits b small)
    ∙ append_assoc first (data_text (take i bytes)) (digits_of 2 b)
    ∙ ap (λ t. first ++ (data_text (take i bytes) ++ t)) (sym last)
    ∙ ap (λ t. first ++ t) (sym (flat_map-append (λ byte. digits_of 2 byte) (take i bytes) (b ∷ [])))
    ∙ ap (λ l. first ++ data_text l) (sym more)
