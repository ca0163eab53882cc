-- What the values of arguments say: texts, flags and numbers (this project's own rule).
use Rattle.std.specs.Prelude.{◌≡◌, ◌==◌, ◌∷◌, ℕ, Bool, true, false, List, [], Option, Some, None, codes, option_map}
use Rattle.std.specs.Prelude.{if◌then◌else◌, option_and_then, slice_get}
use Rattle.std.specs.List.{list_any}
use Rattle.std.specs.Str.{bytes_eq}
use Rattle.std.specs.Str.Parse.{digits_value, without_leading_plus}
use Rattle.clap.specs.ValueTests.{is_unsigned_in}
use Rattle.clap.specs.Words.{Row, Text, all_of}

-- the text begins with `-` (45), as a flag does
abbrev pub begins_with_hyphen : Text → Bool
begins_with_hyphen [] = false
begins_with_hyphen (first ∷ rest) = first == 45

-- none of the texts begins with `-`
abbrev pub HasNoFlag : List Text → Type 0
HasNoFlag texts = list_any begins_with_hyphen texts ≡ false

-- a flag, by its value: the parser gives the text `true` to one that stands
abbrev pub flag_in : Option Text → Bool
flag_in None = false
flag_in (Some value) = bytes_eq value (codes "true")

-- a mode: whether it is that of a single filter
abbrev pub single_in : Text → Option Bool
single_in mode =
    if bytes_eq mode (codes "single") then Some true
    else if bytes_eq mode (codes "dual") then Some false
    else None

-- a text as a number in decimal digits, from the least to the most one; a `+` may stand before it
abbrev pub number_in : ℕ → ℕ → Text → Option ℕ
number_in least most text =
    if is_unsigned_in least most text then Some (digits_value 10 (without_leading_plus text)) else None

-- the number of an option, from the least to the most one: another one, where the option doesn't stand
abbrev pub number_or : ℕ → ℕ → ℕ → Option Text → Option ℕ
number_or otherwise least most None = Some otherwise
number_or otherwise least most (Some text) = number_in least most text

-- the number of an option up to the most one: none, where it doesn't stand
abbrev pub optional_in : ℕ → Option Text → Option (Option ℕ)
optional_in most None = Some None
optional_in most (Some text) = option_map Some (number_in 0 most text)

-- the second value of an argument
abbrev pub second_of : Text → List Row → Option Text
second_of id rows = option_and_then (λ values. slice_get values 1) (all_of id rows)
