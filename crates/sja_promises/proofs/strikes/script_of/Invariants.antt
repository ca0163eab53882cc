use Rattle.std.proofs.Common.{◌≡◌, ◌≤◌, length, take, vec_capacity}
use Rattle.sja_promises.proofs.strikes.script_of.Given as goal

abbrev pub invariant-loop-strike : goal.invariant-loop-strike
invariant-loop-strike l = record {
  items : l.strikes.items ≡ take l.strike-index l.plan.strikes;
  room : length l.plan.strikes ≤ vec_capacity l.strikes;
}
