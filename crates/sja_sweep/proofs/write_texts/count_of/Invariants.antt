use Rattle.std.proofs.Common.{◌≡◌, ◌≤◌, map, take}
use Rattle.sja_sweep.specs.SweepText.{count_of}
use Rattle.sja_sweep.specs.Inside.Reaching.{outcome_value}
use Rattle.sja_sweep.proofs.write_texts.count_of.Given as goal

-- those so far
abbrev pub invariant-loop-told : goal.invariant-loop-told
invariant-loop-told l = record {
  counted : l.count ≡ count_of l.kind (map outcome_value (take l.told-index l.tolds));
  few : l.count ≤ l.told-index;
}
