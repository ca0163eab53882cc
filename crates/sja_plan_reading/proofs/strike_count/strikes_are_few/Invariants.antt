use Rattle.std.proofs.Common.{◌≡◌, ◌≤◌, map, take}
use Rattle.sja_plan_reading.specs.StrikeTexts.{strikes_in}
use Rattle.sja_plan_reading.proofs.strike_count.strikes_are_few.Given as goal

-- what the texts so far count for
abbrev pub invariant-loop-text : goal.invariant-loop-text
invariant-loop-text l = record {
  total : l.total ≡ strikes_in (map (λ t. t.now) (take l.text-index l.texts));
  few : l.total ≤ l.most;
}
