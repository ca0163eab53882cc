use Rattle.std.proofs.Common.{◌≡◌, ◌++◌, map, drop}
use Rattle.sja_plan_text.specs.Names.{set_names}
use Rattle.sja_plan_text.proofs.names.set_names.Given as goal

-- the names so far, and those of the bits that are left
abbrev pub invariant-loop-name : goal.invariant-loop-name
invariant-loop-name l =
    set_names (map (λ name. name.now) l.names) l.value
    ≡ map (λ name. name.now) l.set.items ++ set_names (map (λ name. name.now) (drop l.name-index l.names)) l.rest
