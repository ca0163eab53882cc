use Rattle.std.proofs.Common.{◌≡◌, map, drop}
use Rattle.sja_plan_reading.specs.RegisterNames.{name_in}
use Rattle.sja_plan_reading.proofs.register_names.first_name_in.Given as goal

-- the name is in a row that isn't looked at yet
abbrev pub invariant-loop-row : goal.invariant-loop-row
invariant-loop-row l =
    name_in (map (λ r. (r.0.now, r.1)) l.rows) l.address
    ≡ name_in (map (λ r. (r.0.now, r.1)) (drop l.row-index l.rows)) l.address
