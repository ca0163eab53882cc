-- The CRC sequence of a frame (Bosch CAN 2.0 part A section 3.1.1, "CRC field").
--
-- A polynomial over the two elements 0 and 1 is written as the number whose binary digit i is the coefficient of
-- x^i. So the sum of two is their exclusive or, and a product with x is the double.
use Rattle.std.specs.Prelude.{◌≡◌, ◌+◌, ◌*◌, ◌^◌, ℕ, Bool, true, false, List, [], ◌∷◌, ◌++◌, length, bit_xor}
use Rattle.can_levels.specs.declared.level.Level.{Level}
use Rattle.can_levels.specs.Digits.{value}

-- x^15 + x^14 + x^10 + x^8 + x^7 + x^4 + x^3 + 1
abbrev pub generator : ℕ
generator = 2 ^ 15 + 2 ^ 14 + 2 ^ 10 + 2 ^ 8 + 2 ^ 7 + 2 ^ 4 + 2 ^ 3 + 1

-- a polynomial times a constant
abbrev pub scaled : Bool → ℕ → ℕ
scaled false p = 0
scaled true p = p

-- the product of a polynomial and another, which is given by its coefficients, that of x^0 first
abbrev pub product : ℕ → List Bool → ℕ
product p [] = 0
product p (coefficient ∷ coefficients) = bit_xor (scaled coefficient p) (2 * product p coefficients)

-- the generator divides this polynomial
abbrev pub IsMultiple : ℕ → Type 0
IsMultiple n = (quotient : List Bool) × (n ≡ product generator quotient)

-- c is the CRC sequence of b: 15 levels such that b followed by c, read as a polynomial, is a multiple of the
-- generator. So c is the remainder of b times x^15 by the generator
pub record Crc (b c : List Level) : Type 0 where
  pub count : length c ≡ 15
  pub divides : IsMultiple (value (b ++ c))
