use Rattle.std.proofs.Common.{◌≡◌, ◌≤◌, ◌-◌, ◌*◌, length}
use Rattle.std.specs.List.{range_with_len}
use Rattle.lemmas.specs.Gathering.{gathered}
use Rattle.sja_sweep.specs.Inside.Asking.{laters_paired}
use Rattle.sja_sweep.proofs.pair_count.count_others.Given as goal

-- the nodes so far
abbrev pub invariant-loop-other : goal.invariant-loop-other
invariant-loop-other l = record {
  count : l.runs
      ≡ length (gathered (laters_paired l.within l.fn.asked l.node)
      (range_with_len l.fn.asked.from (l.other - l.fn.asked.from)));
  low : l.fn.asked.from ≤ l.other;
  high : l.other ≤ l.fn.asked.end;
  few : l.runs ≤ (l.other - l.fn.asked.from) * 18446744073709551616;
}
