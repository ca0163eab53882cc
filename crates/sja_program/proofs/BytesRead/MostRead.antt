-- How many bytes of an input are read at most doesn't fall as more of them are known.
use Rattle.std.proofs.Common.{◌≡◌, ◌<◌, ◌≤◌, ◌+◌, ◌++◌, Bool, true, false, List, ℕ, length, refl, arith}
use Rattle.std.specs.Prelude.{if◌then◌else◌}
use Rattle.sja_plan_reading.specs.DocumentLimits.{begins_by_bytes, most_bytes}
use Rattle.sja_plan_reading.proofs.BeforeKeys.{still_by_bytes}
use Rattle.sja_program.specs.Input.{most_read}

abbrev most_by : Bool → ℕ
most_by raw = if raw then 16777216 else 65536

-- there is a first byte to be read, and no more of them than so many
few_by : (raw : Bool) → most_by raw ≤ 16777216
few_by true = omega arith
few_by false = omega arith

pub most_few : (bytes : List ℕ) → most_bytes bytes ≤ 16777216
most_few bytes = few_by (begins_by_bytes bytes)

least_by : (raw : Bool) → 65537 ≤ most_by raw + 1
least_by true = omega arith
least_by false = omega arith

-- so many bytes are read of each input that has them
pub most_least : (bytes : List ℕ) → 65537 ≤ most_read bytes
most_least bytes = least_by (begins_by_bytes bytes)

grows_by : (was now : Bool) → (was ≡ true → now ≡ true) → most_by was + 1 ≤ most_by now + 1
grows_by true true still = omega arith
grows_by true false still = let e = still refl in cc
grows_by false true still = omega arith
grows_by false false still = omega arith

pub most_grows : (bytes more : List ℕ) → most_read bytes ≤ most_read (bytes ++ more)
most_grows bytes more = grows_by (begins_by_bytes bytes) (begins_by_bytes (bytes ++ more)) (still_by_bytes bytes more)

many_by : (raw : Bool) (n : ℕ) → 65537 < n → n ≤ most_by raw + 1 → 16777217 ≡ most_by raw + 1
many_by true n many within = omega arith
many_by false n many within = absurd (omega (arith, many, within))

-- so many bytes are those of a plan of version 3, or more
pub most_of_many : (bytes : List ℕ) → 65537 < length bytes → length bytes ≤ most_read bytes → 16777217 ≡ most_read bytes
most_of_many bytes many within = many_by (begins_by_bytes bytes) (length bytes) many within
