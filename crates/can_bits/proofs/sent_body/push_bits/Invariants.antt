use Rattle.std.proofs.Common.{◌≡◌, ◌-◌, ◌/◌, ◌^◌, ◌++◌}
use Rattle.can_levels.specs.Digits.{bits}
use Rattle.can_bits.proofs.sent_body.push_bits.Given as goal

-- the first k digits were pushed
abbrev pub invariant-loop-k : goal.invariant-loop-k
invariant-loop-k l = l.body.items ≡ l.fn.body.items ++ bits l.k (l.number / 2 ^ (l.count - l.k))
