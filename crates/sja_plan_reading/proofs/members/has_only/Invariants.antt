use Rattle.std.proofs.Common.{◌≡◌}
use Rattle.std.specs.List.{list_all}
use Rattle.std.specs.Map.{keys_of}
use Rattle.sja_plan_reading.proofs.Spelling.Keys.{is_allowed}
use Rattle.sja_plan_reading.proofs.members.has_only.Given as goal

-- the keys that are left decide
abbrev pub invariant-loop-key : goal.invariant-loop-key
invariant-loop-key l =
    list_all (is_allowed l.allowed) (keys_of l.table.entries) ≡ list_all (is_allowed l.allowed) l.key-iterator
