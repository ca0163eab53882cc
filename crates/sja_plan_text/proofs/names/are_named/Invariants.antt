use Rattle.std.proofs.Common.{◌≡◌, nat_lt, length, map, drop}
use Rattle.std.specs.List.{list_all}
use Rattle.sja_plan_text.proofs.names.are_named.Given as goal

-- all have a name where those have one that aren't looked at yet
abbrev pub invariant-loop-name : goal.invariant-loop-name
invariant-loop-name l =
    list_all (λ name. nat_lt 0 (length name)) (map (λ name. name.now) l.set)
    ≡ list_all (λ name. nat_lt 0 (length name)) (map (λ name. name.now) (drop l.name-index l.set))
