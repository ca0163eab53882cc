use Rattle.std.proofs.Common.{◌≡◌, ◌≤◌, ◌-◌, ◌++◌}
use Rattle.std.specs.List.{range_with_len}
use Rattle.lemmas.specs.Gathering.{gathered}
use Rattle.sja_sweep.specs.Inside.Asking.{others_paired}
use Rattle.sja_sweep.proofs.pairs.push_pairs.Given as goal

-- the nodes so far
abbrev pub invariant-loop-node : goal.invariant-loop-node
invariant-loop-node l = record {
  pushed : l.trials.items ≡ l.fn.trials.items
      ++ gathered (others_paired l.within l.fn.asked)
      (range_with_len l.fn.asked.from (l.node - l.fn.asked.from));
  low : l.fn.asked.from ≤ l.node;
  high : l.node ≤ l.fn.asked.end;
}
