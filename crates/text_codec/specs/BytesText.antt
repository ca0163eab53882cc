-- Bytes as text (this project's own rule).
use Rattle.std.specs.Prelude.{◌/◌, ◌%◌, ℕ, List, [], ◌∷◌, ◌++◌, codes, slice_index}
use Rattle.std.specs.List.{flat_map}

-- the hexadecimal digit of a number below 16, in lower case
abbrev pub hex_digit : ℕ → ℕ
hex_digit number = slice_index (codes "0123456789abcdef") number

-- the two digits of a byte, the high one first
abbrev pub byte_digits : ℕ → List ℕ
byte_digits byte = hex_digit (byte / 16) ∷ hex_digit (byte % 16) ∷ []

-- the same behind a space
abbrev pub spaced_digits : ℕ → List ℕ
spaced_digits byte = 32 ∷ byte_digits byte

-- two digits a byte, one space between two bytes, and a line feed
abbrev pub bytes_text : List ℕ → List ℕ
bytes_text [] = 10 ∷ []
bytes_text (first ∷ rest) = byte_digits first ++ (flat_map spaced_digits rest ++ 10 ∷ [])
