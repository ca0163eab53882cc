-- What was left on a link (this project's own rule).
use Rattle.std.specs.Prelude.{◌≡◌, ◌++◌}
use Rattle.sja_journal.specs.Lists.{Lists}
use Rattle.sja_rings.specs.declared.remainder.Remainder.{Remainder}

-- got and then what was left down is what was put, and taken and then what was left up is what was given
abbrev pub IsLeft : Remainder → Lists → Type 0
IsLeft s l = (l.got ++ s.down.items ≡ l.put) × (l.taken ++ s.up.items ≡ l.given)
