-- The address and the value that words of an access spell (this project's own rule). In versions 1 and 2 an address is
-- decimal, and a value two hexadecimal digits.
use Rattle.std.specs.Prelude.{◌≡◌, ◌==◌, ◌≤◌, ℕ, nat_lt, if◌then◌else◌, Option, Some, None, Result, Ok, Err}
use Rattle.std.specs.Prelude.{List, [], ◌∷◌, codes, drop}
use Rattle.std.specs.Option.{option_or}
use Rattle.std.specs.List.{starts_with}
use Rattle.hex.specs.Hex.{decode_sized}
use Rattle.hex.specs.declared.error.FromHexError.{FromHexError}
use Rattle.sja_plan_reading.specs.Words.{Text, number_of}
use Rattle.sja_plan_reading.specs.RegisterNames.{register_address}
use Rattle.sja_plan_reading.specs.BitNames.{named_byte}

-- the byte that is all that was decoded
abbrev pub only_byte : Result (List ℕ) FromHexError → Option ℕ
only_byte (Ok (b ∷ [])) = Some b
only_byte (Ok bytes) = None
only_byte (Err e) = None

-- the byte that two hexadecimal digits spell, in either case
abbrev pub byte_of : Text → Option ℕ
byte_of word = only_byte (decode_sized word 1)

-- one digit with a 0 in front; all else as it is
abbrev pub padded : Text → Text
padded (digit ∷ []) = 48 ∷ digit ∷ []
padded digits = digits

-- the byte that one or two hexadecimal digits behind `0x` spell
abbrev pub prefixed_byte : Text → Option ℕ
prefixed_byte word = if starts_with ◌==◌ word (codes "0x") then byte_of (padded (drop 2 word)) else None

-- the first that is there, of what a word spells in each version, and in version 3 besides
abbrev pub or_newer : ℕ → Option ℕ → Option ℕ → Option ℕ
or_newer version old newer = option_or old (if nat_lt version 3 then None else newer)

-- the number that a word spells as an address: decimal digits; in version 3 `0x` and hexadecimal digits, or the name of
-- a register
abbrev pub address_of : ℕ → Text → Option ℕ
address_of version word =
    or_newer version (number_of word) (option_or (prefixed_byte word) (register_address word))

-- the word spells this address
abbrev pub SpellsAddress : ℕ → Text → ℕ → Type 0
SpellsAddress version word address = (address_of version word ≡ Some address) × (address ≤ 255)

-- the value that a word spells for the register at an address: two hexadecimal digits; in version 3 `0x` and
-- hexadecimal digits, or names of bits of that register
abbrev pub value_of : ℕ → ℕ → Text → Option ℕ
value_of version address word =
    or_newer version (byte_of word) (option_or (prefixed_byte word) (named_byte address word))

-- the word spells this value for the register at this address
abbrev pub SpellsValue : ℕ → ℕ → Text → ℕ → Type 0
SpellsValue version address word value = (value_of version address word ≡ Some value) × (value ≤ 255)
