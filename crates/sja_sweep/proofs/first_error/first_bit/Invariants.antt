use Rattle.std.proofs.Common.{◌≡◌, ◌-◌, length}
use Rattle.std.specs.Prelude.{find}
use Rattle.std.specs.List.{range_with_len}
use Rattle.sja_sweep.specs.FirstErrors.{first_bit, is_new_at}
use Rattle.sja_sweep.proofs.first_error.first_bit.Given as goal

-- the first such bit is among those that are left
abbrev pub invariant-loop-bit : goal.invariant-loop-bit
invariant-loop-bit l =
    find (is_new_at l.without l.now) (range_with_len l.bit (length l.now - l.bit)) ≡ first_bit l.without l.now
