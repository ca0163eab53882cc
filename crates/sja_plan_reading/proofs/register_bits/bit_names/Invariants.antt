use Rattle.std.proofs.Common.{◌≡◌, ℕ, List, ◌==◌, option_map, map, find, drop}
use Rattle.sja_plan_reading.specs.Words.{Text}
use Rattle.sja_plan_reading.specs.BitNames.{bit_names}
use Rattle.sja_plan_reading.proofs.register_bits.bit_names.Given as goal

-- the register is one that isn't looked at yet
abbrev pub invariant-loop-row : goal.invariant-loop-row
invariant-loop-row l =
    bit_names l.address
    ≡ option_map (λ (r : ℕ × List Text). r.1)
    (find (λ (r : ℕ × List Text). r.0 == l.address)
    (map (λ r. (r.0, map (λ name. name.now) r.1)) (drop l.row-index l.row-items)))
