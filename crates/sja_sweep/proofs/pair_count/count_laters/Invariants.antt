use Rattle.std.proofs.Common.{◌≡◌, ◌≤◌, ◌-◌, ◌*◌, max, length}
use Rattle.std.specs.List.{range_with_len}
use Rattle.lemmas.specs.Gathering.{gathered}
use Rattle.sja_sweep.specs.Targets.{least_later}
use Rattle.sja_sweep.specs.Inside.Asking.{bits_paired}
use Rattle.sja_sweep.proofs.pair_count.count_laters.Given as goal

-- those so far
abbrev pub invariant-loop-later : goal.invariant-loop-later
invariant-loop-later l = record {
  count : l.runs ≡ length (gathered (bits_paired l.fn.asked l.node l.other)
      (range_with_len (least_later l.node l.other) (l.later - least_later l.node l.other)));
  low : least_later l.node l.other ≤ l.later;
  high : l.later ≤ max (least_later l.node l.other) l.end;
  few : l.runs ≤ l.later * 4294967296;
}
