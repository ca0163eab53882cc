-- What the registers of nodes read as, as text (this project's own rule). Registers and bits have the names of the data
-- sheet (SJA1000, 6.4), which stand in `REGISTERS` and `BITS` of sja_plan.
use Rattle.std.specs.Prelude.{◌==◌, ◌||◌, ◌/◌, ◌%◌, ℕ, Bool, List, [], ◌∷◌, ◌++◌, Option, Some, None, codes, length}
use Rattle.std.specs.Prelude.{decimal, if◌then◌else◌, slice_index_or}
use Rattle.std.specs.List.{flat_map}
use Rattle.sja_plan_reading.specs.BitNames.{bit_names}
use Rattle.sja_plan_reading.specs.RegisterNames.{name_read}
use Rattle.sja_log.specs.declared.register_row.RegisterRow.{RegisterRow}
use Rattle.text_codec.specs.BytesText.{byte_digits}

-- the name, if there is one
abbrev pub or_nothing : Option (List ℕ) → List ℕ
or_nothing None = []
or_nothing (Some name) = name

-- the name of what is read at an address, in reset mode (`true`) and out of it
abbrev pub name_part : Bool → ℕ → List ℕ
name_part reset address = or_nothing (name_read reset address)

-- the name of a bit that is worth so much in a byte behind a space, if it is 1 and has one
abbrev pub bit_part : List ℕ → ℕ → ℕ → List ℕ
bit_part name value worth = if (value / worth % 2 == 0) || (length name == 0) then [] else 32 ∷ name

-- the same of the bit at a place, by the names of all, bit 0 first
abbrev pub place_part : List (List ℕ) → ℕ → ℕ → ℕ → List ℕ
place_part names value place worth = bit_part (slice_index_or names place []) value worth

-- the names of the bits that are 1, the highest first
abbrev pub bits_part : List (List ℕ) → ℕ → List ℕ
bits_part names value =
    place_part names value 7 128 ++ place_part names value 6 64 ++ place_part names value 5 32
    ++ place_part names value 4 16 ++ place_part names value 3 8 ++ place_part names value 2 4
    ++ place_part names value 1 2 ++ place_part names value 0 1

abbrev pub names_by : Option (List (List ℕ)) → ℕ → List ℕ
names_by None value = []
names_by (Some names) value = bits_part names value

-- the same of the register at an address, if its bits have names
abbrev pub names_part : ℕ → ℕ → List ℕ
names_part address value = names_by (bit_names address) value

-- the line of a row
abbrev pub row_line : RegisterRow → List ℕ
row_line row =
    codes "node " ++ decimal row.node ++ codes " " ++ name_part row.reset row.address ++ codes " "
    ++ byte_digits row.value ++ names_part row.address row.value ++ 10 ∷ []

-- a line for each row
abbrev pub registers_text : List RegisterRow → List ℕ
registers_text rows = flat_map row_line rows
