use Rattle.std.proofs.Common.{◌≡◌, ℕ, option_map, map, find, drop}
use Rattle.std.specs.Str.{str_eq_ignore_ascii_case}
use Rattle.sja_plan_reading.specs.Words.{Text}
use Rattle.sja_plan_reading.specs.RegisterNames.{register_address}
use Rattle.sja_plan_reading.proofs.register_names.register_address.Given as goal

-- the register is one that isn't looked at yet
abbrev pub invariant-loop-register : goal.invariant-loop-register
invariant-loop-register l =
    register_address l.name
    ≡ option_map (λ (r : Text × ℕ). r.1)
    (find (λ (r : Text × ℕ). str_eq_ignore_ascii_case r.0 l.name)
    (map (λ r. (r.0.now, r.1)) (drop l.register-index l.register-items)))
