-- A text as a number, from what `parse` answers of it.
use Rattle.std.proofs.Common.{◌≡◌, ◌≤◌, ◌<◌, ◌^◌, ℕ, Bool, Some, None, refl, subst, true, false}
use Rattle.std.specs.Str.Parse.{IsNumeral, digits_value, without_leading_plus}
use Rattle.clap.proofs.ValueTestLemmas.{Accepts-accepts, accepts-Accepts}
use Rattle.clap.specs.Values.{IsUnsignedIn}
use Rattle.clap.specs.ValueTests.{is_unsigned_in}
use Rattle.clap.specs.Words.{Text}
use Rattle.clap.specs.declared.builder.value_parser.ValueParser.TheVariants as vp
use Rattle.sja_command_line.specs.Values.{number_in}

-- a numeral within the bounds
pub is_number : (least most n : ℕ) (text : Text) → n ≡ digits_value 10 (without_leading_plus text) →
    IsNumeral 10 (without_leading_plus text) × (digits_value 10 (without_leading_plus text) < 2 ^ 64) → least ≤ n →
    n ≤ most → Some n ≡ number_in least most text
is_number least most n text is fits enough few =
    let value = digits_value 10 (without_leading_plus text) in
    let above : least ≤ value = subst (λ k. least ≤ k) is enough in
    let bound : value ≤ most = subst (λ k. k ≤ most) is few in
    rw (Accepts-accepts false (vp.Unsigned least most) text (fits.0, fits.1, above, bound), is) refl

-- none
pub no_number : (least most : ℕ) (text : Text) → (IsUnsignedIn least most text → ⊥) → None ≡ number_in least most text
no_number least most text not = go (is_unsigned_in least most text) refl
  where
    go : (t : Bool) → is_unsigned_in least most text ≡ t → None ≡ number_in least most text
    go true is = absurd (not (accepts-Accepts false (vp.Unsigned least most) text is))
    go false is = rw is refl
