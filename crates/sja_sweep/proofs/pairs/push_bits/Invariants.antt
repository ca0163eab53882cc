use Rattle.std.proofs.Common.{◌≡◌, ◌≤◌, ◌+◌, ◌-◌, ◌++◌, map}
use Rattle.std.specs.List.{range_with_len}
use Rattle.sja_sweep.specs.Targets.{pair}
use Rattle.sja_sweep.proofs.pairs.push_bits.Given as goal

-- the bits so far
abbrev pub invariant-loop-bit : goal.invariant-loop-bit
invariant-loop-bit l = record {
  pushed : l.trials.items ≡ l.fn.trials.items
      ++ map (pair l.node l.other l.later) (range_with_len l.fn.asked.first (l.bit - l.fn.asked.first));
  low : l.fn.asked.first ≤ l.bit;
  high : l.bit ≤ l.fn.asked.first + (l.fn.asked.count - l.later);
}
