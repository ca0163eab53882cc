-- How many activations a node has (this project's own rule).
use Rattle.std.specs.Prelude.{◌^◌, ℕ, nat_lt, if◌then◌else◌}

-- at most in a run of this version: eight in versions 1 and 2, and 64 in version 3. A session without an end goes by
-- the rules of version 3 and has a version of its own here, 4, with so many that no time is long enough for them
abbrev pub most_activations : ℕ → ℕ
most_activations version =
    if nat_lt version 3 then 8 else if nat_lt version 4 then 64 else 2 ^ 56
