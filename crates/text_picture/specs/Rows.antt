-- What the rows of a picture show of a bit, as functions of its number (this project's own rule). told are the bits of
-- all nodes, node by node, and hs those of one node.
use Rattle.std.specs.Prelude.{◌-◌, ◌%◌, ℕ, Option, Some, None, List, [], ◌∷◌, map, take, codes, decimal, encode_utf8}
use Rattle.std.specs.Prelude.{slice_get}
use Rattle.can_levels.specs.declared.level.Level.{Level}
use Rattle.can_levels.specs.declared.level.Level.TheVariants.{Dominant, Recessive}
use Rattle.sja_replay.specs.declared.bit_event.BitEvent.{BitEvent}
use Rattle.text_trace.specs.TraceText.{driven_in}
use Rattle.can_levels.specs.BusLevel.{wired}
use Rattle.text_picture.specs.EqualLevels.{is_after_five}
use Rattle.text_picture.specs.Letters.{letter}

-- ---- the ruler: each ten bits have the number of the first one of them, from the left on

abbrev pub character_if : Option ℕ → List ℕ
character_if None = codes " "
character_if (Some c) = c ∷ []

abbrev pub ruler_in : ℕ → List ℕ
ruler_in bit = character_if (slice_get (decimal (bit - bit % 10)) (bit % 10))

-- ---- levels: the characters U+2581, a line below, and U+2594, a line above

abbrev pub level_sign : Level → List ℕ
level_sign Dominant = encode_utf8 0x2581
level_sign Recessive = encode_utf8 0x2594

-- the level that all nodes drive together
abbrev pub bus_in : List (List BitEvent) → ℕ → Level
bus_in told bit = wired (map (λ (hs : List BitEvent). driven_in (slice_get hs bit)) told)

abbrev pub bus_sign : List (List BitEvent) → ℕ → List ℕ
bus_sign told bit = level_sign (bus_in told bit)

-- the one that a node drives; recessive where it has no such bit
abbrev pub driven_sign : List BitEvent → ℕ → List ℕ
driven_sign hs bit = level_sign (driven_in (slice_get hs bit))

-- ---- letters

-- none where the node has no such bit
abbrev pub letter_if : Level → List BitEvent → Option BitEvent → List ℕ
letter_if bus before None = codes "."
letter_if bus before (Some h) = letter bus (is_after_five before) h

abbrev pub letter_in : (ℕ → Level) → List BitEvent → ℕ → List ℕ
letter_in bus hs bit = letter_if (bus bit) (take bit hs) (slice_get hs bit)
