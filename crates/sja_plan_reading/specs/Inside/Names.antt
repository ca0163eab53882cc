-- The parts of keys that were read, and what their numbers stand for.
use Rattle.std.specs.Prelude.{◌+◌, ◌≤◌, ℕ, zero, suc, List, [], ◌∷◌, map, take, drop, length}
use Rattle.std.specs.List.{All, slice_index_or}
use Rattle.sja_plan_reading.specs.Words.{Text}
use Rattle.sja_plan_reading.specs.declared.tables.names.Part.{Part}
use Rattle.sja_plan_reading.specs.declared.tables.names.Names.{Names}

-- the part of this number, and no text past the end
abbrev pub text_at : List Text → ℕ → Text
text_at ts i = slice_index_or ts i []

-- so many parts from this number on
abbrev pub texts_from : ℕ → ℕ → List Text → List Text
texts_from first zero ts = []
texts_from first (suc n) ts = text_at ts first ∷ texts_from (suc first) n ts

-- the bytes of a part
abbrev pub part_text : List ℕ → Part → Text
part_text bytes p = take p.len (drop p.start bytes)

-- all parts, one after another
abbrev pub texts_of : Names → List Text
texts_of names = map (part_text names.bytes.items) names.parts.items

-- a part's bytes are among these
abbrev pub IsWithin : List ℕ → Part → Type 0
IsWithin bytes p = p.start + p.len ≤ length bytes

abbrev pub IsWhole : Names → Type 0
IsWhole names = All (IsWithin names.bytes.items) names.parts.items
