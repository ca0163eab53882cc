-- Numbers that words spell.
use Rattle.std.proofs.Common.{◌≡◌, ◌≢◌, ◌≤◌, ◌<◌, ◌^◌, ℕ, Bool, true, false, Some, None}
use Rattle.std.proofs.Common.{Result, Ok, Err, length, get_or, IfSome, refl, ap, arith}
use Rattle.std.proofs.lemmas.Bool.Decides.{nat_tests}
use Rattle.std.proofs.lemmas.Str.Parse.{IsNumeralModel, numerals_by_value}
use Rattle.std.proofs.lemmas.Str.Parse.{tells_all_ascii_digits, parse_plain, digits_value_short}
use Rattle.std.specs.Result.{OkIff, result_ok}
use Rattle.std.specs.Str.{all_ascii_digits}
use Rattle.std.specs.Str.Parse.{digits_value, ParsesUnsigned}
use Rattle.sja_plan_reading.specs.Words.{Text, is_number, number_of}

-- the digits of a number say it
pub own : IsNumeralModel (λ ds. all_ascii_digits ds ≡ true) (digits_value 10)
own = numerals_by_value _ tells_all_ascii_digits

-- what a number is
pub record Spelled (word : Text) : Type 0 where
  pub some : 1 ≤ length word
  pub few : length word ≤ 7
  pub digits : all_ascii_digits word ≡ true

pub spelled : (word : Text) → is_number word ≡ true → Spelled word
spelled word h =
    record { some = grind (arith, nat_tests); few = grind (arith, nat_tests); digits = grind (arith, nat_tests) }

pub is_spelled : (word : Text) → Spelled word → is_number word ≡ true
is_spelled word h = grind (arith, nat_tests)

-- it is below 10 to the 7
pub number_small : (word : Text) → Spelled word → digits_value 10 word < 10000000
number_small word h = digits_value_short own word 7 h.digits h.few

-- a short word with no plus in front parses as the number that it spells
pub parsed_number : {E : Type 0} (word : Text) (r : Result ℕ E) → ParsesUnsigned 32 10 word r → get_or word 0 0 ≢ 43 →
    length word ≤ 7 → result_ok r ≡ number_of word
parsed_number {E} word r h plain few = by_result r (parse_plain own 32 word r h plain)
  where
    by_test : (b : Bool) → is_number word ≡ b →
        ¬ ((all_ascii_digits word ≡ true) × (0 < length word) × (digits_value 10 word < 2 ^ 32)) → None ≡ number_of word
    by_test false is refused = rw is refl
    by_test true is refused =
        let s = spelled word is in absurd (refused (s.digits, s.some, omega (arith, number_small word s)))

    by_result : (r : Result ℕ E) → OkIff r ((all_ascii_digits word ≡ true) × (0 < length word)
        × (digits_value 10 word < 2 ^ 32)) (digits_value 10 word) → result_ok r ≡ number_of word
    by_result (Ok n) (p, is) =
        let yes = is_spelled word (record { some = p.1; few = few; digits = p.0 }) in
        rw yes (ap Some is)
    by_result (Err e) refused = by_test (is_number word) refl refused

-- and it is small
pub number_of_small : (word : Text) → IfSome (number_of word) (λ n. n < 10000000)
number_of_small word = by_test (is_number word) refl
  where
    by_test : (b : Bool) → is_number word ≡ b → IfSome (number_of word) (λ n. n < 10000000)
    by_test false is = rw is tt
    by_test true is = rw is (number_small word (spelled word is))
