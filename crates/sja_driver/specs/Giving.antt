-- What a driver gives at its end (this project's own rule).
use Rattle.std.specs.Prelude.{List, ◌++◌}
use Rattle.sja_journal.specs.declared.up.Up.{Up}
use Rattle.sja_journal.specs.Lists.{Lists}

-- with several items given
abbrev pub with_gives : Lists → List Up → Lists
with_gives l xs = record l { given = l.given ++ xs }

-- just these items were given, in this order, and nothing was got
abbrev pub IsGiven : {E : Type 0} → (E → Lists → Type 0) → E → E → List Up → Type 0
IsGiven stands old new gave = (l : Lists) → stands old l → stands new (with_gives l gave)
