-- The names with which plans of version 3 are written (this project's own rule). Registers and bits have those of the
-- data sheet (SJA1000, 6.4), which stand in `REGISTERS` and `BITS` of `sja_plan_reading`.
use Rattle.std.specs.Prelude.{◌==◌, ◌&&◌, ◌/◌, ◌%◌, ℕ, Bool, nat_lt, if◌then◌else◌, Option, Some, None, option_map}
use Rattle.std.specs.Prelude.{List, [], ◌∷◌, length, drop, find, decimal}
use Rattle.std.specs.Option.{option_or}
use Rattle.std.specs.List.{join_with_byte, list_all}
use Rattle.hex.specs.Hex.{encode_lower}
use Rattle.can_frame.specs.Buffer.{frame_in}
use Rattle.can_notation.specs.Text.{text}
use Rattle.sja_plan_reading.specs.Words.{Text}
use Rattle.sja_plan_reading.specs.RegisterNames.{registers}
use Rattle.sja_plan_reading.specs.BitNames.{bit_names}

-- ---- addresses

-- how many names stand before those of the transmit buffer, and before those of the receive buffer
abbrev pub before_transmit : ℕ
before_transmit = 24

abbrev pub before_receive : ℕ
before_receive = 37

-- the first name of an address in these rows
abbrev pub name_in : List (Text × ℕ) → ℕ → Option Text
name_in rows address = option_map (λ (r : Text × ℕ). r.0) (find (λ (r : Text × ℕ). r.1 == address) rows)

-- the name of the register at an address: from 16 to 28 that of the buffer which has so many names before it
unfoldable pub register_name : ℕ → ℕ → Option Text
register_name before address = option_or (name_in (drop before registers) address) (name_in registers address)

-- that name, or the address in decimal where it has none
abbrev pub name_or_number : Option Text → ℕ → Text
name_or_number None address = decimal address
name_or_number (Some name) address = name

abbrev pub address_word : ℕ → ℕ → Text
address_word before address = name_or_number (register_name before address) address

-- ---- values

-- of the names of a register's bits those of the bits that are set in a byte, bit 0 first
abbrev pub set_names : List Text → ℕ → List Text
set_names [] value = []
set_names (name ∷ names) value =
    if value % 2 == 1 then name ∷ set_names names (value / 2) else set_names names (value / 2)

-- a bit is set, and each that is has a name
abbrev pub are_named : List Text → Bool
are_named set = nat_lt 0 (length set) && list_all (λ name. nat_lt 0 (length name)) set

-- two hexadecimal digits
abbrev pub digits : ℕ → Text
digits value = encode_lower (value ∷ [])

-- the names of the bits that are set, with bars between them; or digits, where that can't be
abbrev pub names_or_digits : List Text → ℕ → Text
names_or_digits set value = if are_named set then join_with_byte 124 set else digits value

abbrev pub value_by : Option (List Text) → ℕ → Text
value_by None value = digits value
value_by (Some names) value = names_or_digits (set_names names value) value

-- the value of the register at an address
abbrev pub value_word : ℕ → ℕ → Text
value_word address value = value_by (bit_names address) value

-- ---- messages

-- the frame of a message in can-utils' notation
abbrev pub message_word : List ℕ → Text
message_word m = text (frame_in m)
