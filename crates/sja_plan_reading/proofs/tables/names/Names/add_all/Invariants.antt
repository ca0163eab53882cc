use Rattle.std.proofs.Common.{◌≡◌, ◌++◌, map, take, string_bytes}
use Rattle.sja_plan_reading.specs.Inside.Names.{texts_of, IsWhole}
use Rattle.sja_plan_reading.proofs.tables.names.Names.add_all.Given as goal

abbrev pub invariant-loop-part : goal.invariant-loop-part
invariant-loop-part l =
    IsWhole l.self × (texts_of l.self ≡ texts_of l.initial.self ++ map string_bytes (take l.part-index l.parts))
