use Rattle.std.proofs.Common.{◌≡◌, length, map}
use denote.Text.{Utf8}
use denote.Shadow.{shadow}
use Rattle.std.specs.List.{list_all}
use Rattle.sja_plan_reading.specs.BitNames.{parts, is_among}
use Rattle.sja_plan_reading.proofs.named_byte.are_names.Given as goal

-- the parts of the word are names where those of the rest are
abbrev pub invariant-loop-part : goal.invariant-loop-part
invariant-loop-part l =
    shadow (Utf8 l.rest)
    × (list_all (is_among (map (λ name. name.now) l.names)) (parts l.word)
    ≡ list_all (is_among (map (λ name. name.now) l.names)) (parts l.rest))

abbrev pub decreases-loop-part : goal.decreases-loop-part
decreases-loop-part l = length l.rest
