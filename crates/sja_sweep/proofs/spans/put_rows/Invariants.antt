use Rattle.std.proofs.Common.{◌≡◌, ◌++◌, map, take, string_bytes}
use Rattle.sja_sweep.specs.SweepText.{sweep_rows}
use Rattle.sja_sweep.specs.Inside.Reaching.{outcome_value}
use Rattle.sja_sweep.proofs.spans.put_rows.Given as goal

-- the rows of those so far
abbrev pub invariant-loop-told : goal.invariant-loop-told
invariant-loop-told l =
    string_bytes l.text ≡ string_bytes l.fn.text ++ sweep_rows (map outcome_value (take l.told-index l.tolds))
