use Rattle.std.proofs.Common.{◌≡◌, ◌+◌, ◌++◌, drop}
use Rattle.sja_plan_reading.specs.PlacedTexts.{placed_from}
use Rattle.sja_plan_reading.proofs.checks.placed_in.Given as goal

-- those so far, and those of the rest, are all
abbrev pub invariant-loop-item : goal.invariant-loop-item
invariant-loop-item l = record {
  placed : l.placed.items ++ placed_from l.number (drop l.item-index l.items) ≡ placed_from 1 l.items;
  number : l.number ≡ l.item-index + 1;
}
