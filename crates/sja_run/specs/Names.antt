-- How the names of files are shown (this project's own rule): no control character of a name comes to a terminal.
use Rattle.std.specs.Prelude.{◌==◌, ◌&&◌, ◌||◌, ◌/◌, ◌%◌, ℕ, Bool, nat_lt, nat_le, if◌then◌else◌}
use Rattle.std.specs.Prelude.{List, [], ◌∷◌, ◌++◌, codes, slice_index}

-- a control character of one byte
abbrev pub is_control : ℕ → Bool
is_control byte = nat_lt byte 32 || byte == 127

-- these two bytes are a control character, U+0080 to U+009F
abbrev pub are_control : ℕ → ℕ → Bool
are_control one other = one == 0xC2 && (nat_le 0x80 other && nat_le other 0x9F)

-- the control character of this number as TOML escapes it: a backslash, `u` and four hexadecimal digits
abbrev pub escape : ℕ → List ℕ
escape code =
    92 ∷ codes "u00" ++ slice_index (codes "0123456789abcdef") (code / 16)
    ∷ slice_index (codes "0123456789abcdef") (code % 16) ∷ []

-- what is shown for a byte, behind one byte and before another
abbrev pub shown_byte : ℕ → ℕ → ℕ → List ℕ
shown_byte before byte next =
    if is_control byte then escape byte
    else if are_control byte next then escape next
    else if are_control before byte then []
    else byte ∷ []

-- what is shown for the rest of a name, behind a byte
abbrev pub shown_behind : ℕ → List ℕ → List ℕ
shown_behind before [] = []
shown_behind before (byte ∷ bytes) = shown_byte before byte (slice_index bytes 0) ++ shown_behind byte bytes

-- what is shown for a name: its bytes, and an escape for each control character
abbrev pub shown_name : List ℕ → List ℕ
shown_name name = shown_behind 0 name
