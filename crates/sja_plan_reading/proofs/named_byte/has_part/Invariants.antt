use Rattle.std.proofs.Common.{◌≡◌, length}
use denote.Text.{Utf8}
use denote.Shadow.{shadow}
use Rattle.std.specs.List.{list_any}
use Rattle.std.specs.Str.{str_eq_ignore_ascii_case}
use Rattle.sja_plan_reading.specs.BitNames.{parts}
use Rattle.sja_plan_reading.proofs.named_byte.has_part.Given as goal

-- the name is that of a part of the rest, or of none
abbrev pub invariant-loop-part : goal.invariant-loop-part
invariant-loop-part l =
    shadow (Utf8 l.rest)
    × (list_any (λ part. str_eq_ignore_ascii_case part l.name) (parts l.word)
    ≡ list_any (λ part. str_eq_ignore_ascii_case part l.name) (parts l.rest))

abbrev pub decreases-loop-part : goal.decreases-loop-part
decreases-loop-part l = length l.rest
