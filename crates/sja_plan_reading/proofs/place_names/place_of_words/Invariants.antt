use Rattle.std.proofs.Common.{◌≡◌, ◌&&◌, option_map, map, find, drop}
use Rattle.std.specs.Str.{str_eq_ignore_ascii_case}
use Rattle.sja_plan_reading.specs.Words.{Text}
use Rattle.sja_plan_reading.specs.PlaceNames.{place_of_words}
use Rattle.sja_plan.specs.declared.place.Place.{Place}
use Rattle.sja_plan_reading.proofs.place_names.place_of_words.Given as goal

-- the place is one that isn't looked at yet
abbrev pub invariant-loop-place : goal.invariant-loop-place
invariant-loop-place l =
    place_of_words l.name l.more
    ≡ option_map (λ (r : Text × Text × Place). r.2)
    (find (λ (r : Text × Text × Place). str_eq_ignore_ascii_case r.0 l.name && str_eq_ignore_ascii_case r.1 l.more)
    (map (λ r. (r.0.now, r.1.now, r.2)) (drop l.place-index l.place-items)))
