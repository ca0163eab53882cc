use Rattle.std.proofs.Common.{◌≡◌, ◌++◌, drop}
use Rattle.sja_plan_reading.specs.PlacedTexts.{bits_in}
use Rattle.sja_plan_reading.proofs.checks.bits_in.Given as goal

-- those so far, and those of the rest, are all
abbrev pub invariant-loop-item : goal.invariant-loop-item
invariant-loop-item l = l.strikes.items ++ bits_in (drop l.item-index l.items) ≡ bits_in l.items
