-- The places of a frame by their names. The tables of names are `PLACES` and `WIDE_PLACES` of `src/place_names.rt`.
use Rattle.std.specs.Prelude.{◌&&◌, List, map, Option, option_map, find}
use Rattle.std.specs.Str.{str_eq_ignore_ascii_case}
use Rattle.sja_plan_reading.specs.Words.{Text}
use Rattle.sja_plan.specs.declared.place.Place.{Place}
use Rattle.sja_plan_reading.specs.declared.place_names.TheConstants.{PLACES, WIDE_PLACES}

-- the names of one word, with their places
abbrev pub places : List (Text × Place)
places = map (λ r. (r.0.now, r.1)) PLACES

-- the names of two words, with their places
abbrev pub wide_places : List (Text × Text × Place)
wide_places = map (λ r. (r.0.now, r.1.now, r.2)) WIDE_PLACES

-- the place of this name, in either case
unfoldable pub place_of_word : Text → Option Place
place_of_word word =
    option_map (λ (r : Text × Place). r.1) (find (λ (r : Text × Place). str_eq_ignore_ascii_case r.0 word) places)

unfoldable pub place_of_words : Text → Text → Option Place
place_of_words word more =
    option_map (λ (r : Text × Text × Place). r.2)
    (find (λ (r : Text × Text × Place). str_eq_ignore_ascii_case r.0 word && str_eq_ignore_ascii_case r.1 more)
    wide_places)
