-- How much a plan has at most, by its version (this project's own rule). In version 3 drivers know addresses and bytes
-- alone, and take some twenty accesses a frame.
use Rattle.std.specs.Prelude.{ℕ, nat_lt, if◌then◌else◌}

-- the bits of a run
abbrev pub most_bits : ℕ → ℕ
most_bits version = if nat_lt version 3 then 200000 else 2000000

-- the steps of a node's driver
abbrev pub most_steps : ℕ → ℕ
most_steps version = if nat_lt version 3 then 1000 else 65535

-- the turns
abbrev pub most_turns : ℕ → ℕ
most_turns version = if nat_lt version 3 then 10000 else 200000

-- the bits that the strikes strike, each counted as often as it is struck
abbrev pub most_strikes : ℕ → ℕ
most_strikes version = if nat_lt version 3 then 1000 else 100000
