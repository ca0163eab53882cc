-- Why a run ended, in a word (this project's own rule).
use Rattle.std.specs.Prelude.{ℕ, List, codes}
use Rattle.sja_log.specs.declared.end.End.{End}
use Rattle.sja_log.specs.declared.end.End.TheVariants.{Turns, Rest, Bits}

-- all turns of the plan were done; or all drivers had ended, and the controllers were at rest; or the bits were spent
abbrev pub end_word : End → List ℕ
end_word Turns = codes "turns"
end_word Rest = codes "rest"
end_word Bits = codes "bits"
