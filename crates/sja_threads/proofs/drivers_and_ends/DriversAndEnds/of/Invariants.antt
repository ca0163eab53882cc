use Rattle.std.proofs.Common.{◌≡◌, ◌++◌}
use Rattle.std.specs.Vec.Iter.{into_iter_items}
use Rattle.sja_threads.specs.Inside.Settling.{all_drivers, all_ends}
use Rattle.sja_threads.proofs.drivers_and_ends.DriversAndEnds.of.Given as goal

-- what was gathered, and what is left, are the whole
abbrev pub invariant-loop-worked : goal.invariant-loop-worked
invariant-loop-worked l = record {
  drivers : l.drivers.items ++ all_drivers (into_iter_items l.worked-iterator) ≡ all_drivers l.fn.workeds.items;
  ends : l.ends.items ++ all_ends (into_iter_items l.worked-iterator) ≡ all_ends l.fn.workeds.items;
}
