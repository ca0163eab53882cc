-- The limits of a plan, in any version.
use Rattle.std.proofs.Common.{◌≤◌, ℕ, Bool, true, false, arith}
use Rattle.std.specs.Prelude.{nat_lt, if◌then◌else◌}
use Rattle.sja_plan.specs.Limits.{most_bits, most_steps}

-- of two numbers that a test chooses from, the greater one is a bound
chosen : (b : Bool) (few many : ℕ) → few ≤ many → (if b then few else many) ≤ many
chosen true few many less = less
chosen false few many less = omega arith

pub bits_most : (version : ℕ) → most_bits version ≤ 2000000
bits_most version = chosen (nat_lt version 3) 200000 2000000 (omega arith)

pub steps_most : (version : ℕ) → most_steps version ≤ 65535
steps_most version = chosen (nat_lt version 3) 1000 65535 (omega arith)
