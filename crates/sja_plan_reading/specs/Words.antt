-- The words of a plan's texts, and what a word spells (this project's own rule).
use Rattle.std.specs.Prelude.{◌≡◌, ◌==◌, ◌&&◌, ◌≤◌, ◌<◌, ℕ, Bool, nat_le, if◌then◌else◌}
use Rattle.std.specs.Prelude.{Option, Some, None, Ok, List, [], ◌∷◌, length}
use Rattle.std.specs.List.{slice_split}
use Rattle.std.specs.Str.{all_ascii_digits}
use Rattle.std.specs.Str.Parse.{digits_value}
use Rattle.hex.specs.Hex.{decode_of}
use Rattle.can_frame.specs.Message.{IsMessage}

-- a text, as its bytes in UTF-8
abbrev pub Text : Type 0
Text = List ℕ

-- what stands between the spaces of a text: an empty word where two spaces meet, and at an end with a space
abbrev pub words : Text → List Text
words text = slice_split (λ b. b == 32) text

-- one to seven decimal digits
abbrev pub is_number : Text → Bool
is_number word = nat_le 1 (length word) && nat_le (length word) 7 && all_ascii_digits word

-- the number that a word spells, where it spells one; zeros may lead
abbrev pub number_of : Text → Option ℕ
number_of word = if is_number word then Some (digits_value 10 word) else None

-- the greatest number that seven digits spell
abbrev pub greatest : ℕ
greatest = 9999999

-- the word spells this number, which is from `least` to `most`
abbrev pub SpellsWithin : ℕ → ℕ → Text → ℕ → Type 0
SpellsWithin least most word n = (number_of word ≡ Some n) × (least ≤ n) × (n ≤ most)

-- the word spells the number of a node, counted from 0, of so many
abbrev pub SpellsNode : ℕ → Text → ℕ → Type 0
SpellsNode nodes word node = SpellsWithin 0 greatest word node × (node < nodes)

-- two hexadecimal digits, in either case, spell this byte
abbrev pub SpellsByte : Text → ℕ → Type 0
SpellsByte word byte = decode_of word ≡ Ok (byte ∷ [])

-- hexadecimal digits, two a byte and in either case, spell these bytes, and the bytes are a message
abbrev pub SpellsMessage : Text → List ℕ → Type 0
SpellsMessage word m = (decode_of word ≡ Ok m) × IsMessage m
