-- Bits that words spell.
use Rattle.std.proofs.Common.{◌≡◌, ◌≢◌, ◌≤◌, ◌<◌, ◌^◌, ℕ, Bool, true, Result, Ok, Err, length, get_or}
use Rattle.std.proofs.Common.{IfSome, IfNone, arith}
use Rattle.std.proofs.lemmas.Str.Parse.{parse_plain, digits_value_short}
use Rattle.std.specs.Result.{OkIff, result_ok}
use Rattle.std.specs.Str.{all_ascii_digits}
use Rattle.std.specs.Str.Parse.{digits_value, ParsesUnsigned}
use Rattle.sja_plan_reading.proofs.Spelling.Numbers.{own}
use Rattle.sja_plan_reading.specs.Words.{Text}
use Rattle.sja_live.specs.Commands.{most_digits, SpellsBit}

-- a short word with no plus in front parses as the bit that it spells, if any
pub parsed_bit : {E : Type 0} (endless : Bool) (word : Text) (r : Result ℕ E) → ParsesUnsigned 64 10 word r →
    get_or word 0 0 ≢ 43 → length word ≤ most_digits endless → most_digits endless ≤ 19 →
    IfSome (result_ok r) (SpellsBit endless word)
    × IfNone (result_ok r) ((bit : ℕ) → ¬ SpellsBit endless word bit)
parsed_bit {E} endless word r h plain few most = by_result r (parse_plain own 64 word r h plain)
  where
    by_result : (r : Result ℕ E) → OkIff r ((all_ascii_digits word ≡ true) × (0 < length word)
        × (digits_value 10 word < 2 ^ 64)) (digits_value 10 word) → IfSome (result_ok r) (SpellsBit endless word)
        × IfNone (result_ok r) ((bit : ℕ) → ¬ SpellsBit endless word bit)
    by_result (Ok n) (p, is) = (record { some = p.1; few = few; digits = p.0; value = is }, tt)
    by_result (Err e) refused = (
      tt,
      λ bit s.
          let below = digits_value_short own word 19 s.digits (omega (arith, few, most)) in
          refused (s.digits, s.some, omega (arith, below)),
    )
