use Rattle.std.proofs.Common.{◌≡◌, ◌+◌, ◌++◌, replicate, vec_len, vec_capacity}
use Rattle.can_levels.specs.declared.level.Level.TheVariants.{Recessive}
use Rattle.can_bits.proofs.line.push_tail.Given as goal

-- so many levels were pushed
abbrev pub invariant-loop : goal.invariant-loop
invariant-loop l = record {
  pushed : l.line.items ≡ l.fn.line.items ++ replicate l.counter Recessive;
  count : vec_len l.line ≡ vec_len l.fn.line + l.counter;
  room : vec_capacity l.line ≡ vec_capacity l.fn.line;
}
