use Rattle.std.proofs.Common.{◌≡◌, map, drop}
use Rattle.std.specs.List.{list_any}
use Rattle.std.specs.Str.{str_eq_ignore_ascii_case}
use Rattle.sja_plan_reading.proofs.named_byte.is_one_of.Given as goal

-- it is one of those that aren't looked at yet
abbrev pub invariant-loop-name : goal.invariant-loop-name
invariant-loop-name l =
    list_any (λ name. str_eq_ignore_ascii_case name l.part) (map (λ name. name.now) l.names)
    ≡ list_any (λ name. str_eq_ignore_ascii_case name l.part) (map (λ name. name.now) (drop l.name-index l.names))
