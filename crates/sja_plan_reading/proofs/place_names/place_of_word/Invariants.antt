use Rattle.std.proofs.Common.{◌≡◌, option_map, map, find, drop}
use Rattle.std.specs.Str.{str_eq_ignore_ascii_case}
use Rattle.sja_plan_reading.specs.Words.{Text}
use Rattle.sja_plan_reading.specs.PlaceNames.{place_of_word}
use Rattle.sja_plan.specs.declared.place.Place.{Place}
use Rattle.sja_plan_reading.proofs.place_names.place_of_word.Given as goal

-- the place is one that isn't looked at yet
abbrev pub invariant-loop-place : goal.invariant-loop-place
invariant-loop-place l =
    place_of_word l.name
    ≡ option_map (λ (r : Text × Place). r.1)
    (find (λ (r : Text × Place). str_eq_ignore_ascii_case r.0 l.name)
    (map (λ r. (r.0.now, r.1)) (drop l.place-index l.place-items)))
