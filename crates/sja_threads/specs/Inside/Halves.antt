-- What the two halves of a list hold that contracts alone know: both halves of one ghost name, whose value is the list.
-- Where both are in one hand the list may change; apart, neither changes it.
use Rattle.std.specs.Prelude.{ℕ, List}
use base.Stored.{Coded, coded_list}
use base.Fml.{Fml, fobs, fauth}

unfoldable pub kept_owns : {V : Type 0} → Coded V → ℕ → List V → Fml
kept_owns c name list = fauth name ((coded_list c).code list)

unfoldable pub known_owns : {V : Type 0} → Coded V → ℕ → List V → Fml
known_owns c name list = fobs name ((coded_list c).code list)
