use Rattle.std.proofs.Common.{◌≡◌, map, option_map, reverse, take}
use Rattle.sja_plan_reading.specs.RegisterNames.{name_in}
use Rattle.sja_plan_reading.proofs.register_names.last_name_in.Given as goal

-- the last name in the rows so far
abbrev pub invariant-loop-row : goal.invariant-loop-row
invariant-loop-row l =
    option_map (λ name. name.now) l.name
    ≡ name_in (reverse (map (λ r. (r.0.now, r.1)) (take l.row-index l.rows))) l.address
