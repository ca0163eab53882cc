use Rattle.std.proofs.Common.{◌≡◌, ◌≤◌, ◌-◌, ◌++◌}
use Rattle.std.specs.List.{range_with_len}
use Rattle.lemmas.specs.Gathering.{gathered}
use Rattle.sja_sweep.specs.Inside.Asking.{laters_paired}
use Rattle.sja_sweep.proofs.pairs.push_others.Given as goal

-- the nodes so far
abbrev pub invariant-loop-other : goal.invariant-loop-other
invariant-loop-other l = record {
  pushed : l.trials.items ≡ l.fn.trials.items
      ++ gathered (laters_paired l.within l.fn.asked l.node)
      (range_with_len l.fn.asked.from (l.other - l.fn.asked.from));
  low : l.fn.asked.from ≤ l.other;
  high : l.other ≤ l.fn.asked.end;
}
