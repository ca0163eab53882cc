use Rattle.std.proofs.Common.{◌≡◌, ◌≤◌, ◌-◌, ◌*◌, length}
use Rattle.std.specs.List.{range_with_len}
use Rattle.lemmas.specs.Gathering.{gathered}
use Rattle.sja_sweep.specs.Inside.Asking.{others_paired}
use Rattle.sja_sweep.proofs.pair_count.count_pairs.Given as goal

-- the nodes so far
abbrev pub invariant-loop-node : goal.invariant-loop-node
invariant-loop-node l = record {
  count : l.runs
      ≡ length (gathered (others_paired l.within l.fn.asked)
      (range_with_len l.fn.asked.from (l.node - l.fn.asked.from)));
  low : l.fn.asked.from ≤ l.node;
  high : l.node ≤ l.fn.asked.end;
  few : l.runs ≤ (l.node - l.fn.asked.from) * 4722366482869645213696;
}
