-- Bytes and their bits (this project's own rule).
use Rattle.std.specs.Prelude.{◌==◌, ◌+◌, ◌*◌, ◌/◌, ◌%◌, ◌^◌, not, ℕ, Bool, if◌then◌else◌, List, [], ◌∷◌}
use Rattle.can_frame.specs.Message.{bit}

-- bit `i` of a number is 1
abbrev pub is_set : ℕ → ℕ → Bool
is_set n i = n / 2 ^ i % 2 == 1

-- the number with these bits, bit 0 first
abbrev pub byte : List Bool → ℕ
byte [] = 0
byte (b ∷ bits) = bit b + 2 * byte bits

-- two bits differ
abbrev pub differ : Bool → Bool → Bool
differ a b = if a then not b else b
