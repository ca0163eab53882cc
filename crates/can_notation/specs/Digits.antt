-- Hexadecimal digits as byte values (can-utils, the notation of cansend and candump), and the capitals of a text.
use Rattle.std.specs.Prelude.{◌==◌, ◌+◌, ◌-◌, ◌/◌, ◌%◌, ◌&&◌, ◌||◌, ℕ, zero, suc, nat_lt, nat_le}
use Rattle.std.specs.Prelude.{if◌then◌else◌, List, [], ◌∷◌, ◌++◌, map}

-- the upper-case digit of a number below 16: `0` to `9` are 48 to 57, `A` to `F` are 65 to 70
abbrev pub digit_of : ℕ → ℕ
digit_of n = if nat_lt n 10 then 48 + n else 55 + n

-- the last `count` digits of a number, the most significant one first
abbrev pub digits_of : ℕ → ℕ → List ℕ
digits_of zero n = []
digits_of (suc count) n = digits_of count (n / 16) ++ digit_of (n % 16) ∷ []

-- the capital of a letter `a` to `f` (97 to 102) or `r` (114); anything else is left as it is (this project's own rule)
abbrev pub capital : ℕ → ℕ
capital c = if (nat_le 97 c && nat_le c 102) || (c == 114) then c - 32 else c

-- a text with these letters turned to capitals
abbrev pub capitals : List ℕ → List ℕ
capitals text = map capital text
