use Rattle.std.proofs.Common.{◌≡◌, ◌≤◌, ◌-◌, ◌*◌, length}
use Rattle.std.specs.List.{range_with_len}
use Rattle.lemmas.specs.Gathering.{gathered}
use Rattle.sja_sweep.specs.Inside.Asking.{bits_alone}
use Rattle.sja_sweep.proofs.singles.count_alone.Given as goal

-- the nodes so far
abbrev pub invariant-loop-node : goal.invariant-loop-node
invariant-loop-node l = record {
  count : l.runs ≡ length (gathered (bits_alone l.fn.asked)
      (range_with_len l.fn.asked.from (l.node - l.fn.asked.from)));
  low : l.fn.asked.from ≤ l.node;
  high : l.node ≤ l.fn.asked.end;
  few : l.runs ≤ (l.node - l.fn.asked.from) * 4294967296;
}
