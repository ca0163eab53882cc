-- The bits of the registers by their names (SJA1000 data sheet, 6.4.3 to 6.4.7, 6.5.3 and 6.5.4). The table of
-- addresses and names, bit 0 first, is `BITS` of `src/register_bits.rt`. A name there is empty where a bit has none.
use Rattle.std.specs.Prelude.{◌==◌, ◌&&◌, ◌+◌, ◌*◌, ℕ, Bool, nat_lt, if◌then◌else◌, List, [], ◌∷◌, map, length}
use Rattle.std.specs.Prelude.{Option, Some, None, option_map, option_and_then, find}
use Rattle.std.specs.List.{list_all, list_any, slice_split}
use Rattle.std.specs.Str.{str_eq_ignore_ascii_case}
use Rattle.can_frame.specs.Message.{bit}
use Rattle.sja_plan_reading.specs.Words.{Text}
use Rattle.sja_plan_reading.specs.declared.register_bits.TheConstants.{BITS}

-- the addresses of the registers whose bits have names, with these names
abbrev pub bits : List (ℕ × List Text)
bits = map (λ r. (r.0, map (λ name. name.now) r.1)) BITS

-- the names of the bits of the register at an address; none where its bits have none
unfoldable pub bit_names : ℕ → Option (List Text)
bit_names address = option_map (λ (r : ℕ × List Text). r.1) (find (λ (r : ℕ × List Text). r.0 == address) bits)

-- what stands between the bars of a word
abbrev pub parts : Text → List Text
parts word = slice_split (λ b. b == 124) word

-- the name isn't empty and stands among these, in either case
abbrev pub is_among : List Text → Text → Bool
is_among names name = nat_lt 0 (length name) && list_any (λ n. str_eq_ignore_ascii_case n name) names

-- the byte in which these bits are set, bit 0 first
abbrev pub byte : List Bool → ℕ
byte [] = 0
byte (b ∷ bs) = bit b + 2 * byte bs

-- the byte in which the bits of these names are set that a word names with bars between them, where it names no others
abbrev pub byte_of_names : Text → List Text → Option ℕ
byte_of_names word names =
    if list_all (is_among names) (parts word) then Some (byte (map (is_among (parts word)) names)) else None

-- the byte whose bits a word names, with bars between them, of the register at an address
abbrev pub named_byte : ℕ → Text → Option ℕ
named_byte address word = option_and_then (byte_of_names word) (bit_names address)
