-- What is read of the input, by what it held before and holds after, where that is known (this project's own rule).
use Rattle.std.specs.Prelude.{◌≡◌, ◌+◌, ◌<◌, ◌≤◌, ◌++◌, ℕ, List, [], Option, length}
use Rattle.std.specs.Io.KnownBytes.{Consumes, IsAtEnd}
use Rattle.sja_plan_reading.specs.DocumentLimits.{most_bytes}
use Rattle.text_codec.specs.declared.command_refusal.CommandRefusal.{CommandRefusal}
use Rattle.text_codec.specs.declared.command_refusal.CommandRefusal.TheVariants as refusal

-- how many bytes are read at most where the first ones are these: one more than a plan may have that begins so
abbrev pub most_read : List ℕ → ℕ
most_read bytes = most_bytes bytes + 1

-- these bytes were read: all that the input gives, or the first of them, one more than a plan may have that begins so
abbrev pub IsRead : Option (List ℕ) → Option (List ℕ) → List ℕ → Type 0
IsRead before after bytes =
    Consumes before after bytes × (length bytes ≤ most_read bytes) × (length bytes < most_read bytes → IsAtEnd after)

-- of what stands in a place, as a whole, these bytes were read: all, or the first of them, as many as that
abbrev pub IsReadFrom : List ℕ → List ℕ → Type 0
IsReadFrom whole bytes =
    (rest : List ℕ) × (whole ≡ bytes ++ rest) × (length bytes ≤ most_read bytes)
    × (length bytes < most_read bytes → rest ≡ [])

-- no more than that were read
abbrev pub ReadsFew : Option (List ℕ) → Option (List ℕ) → Type 0
ReadsFew before after = (bytes : List ℕ) × Consumes before after bytes × (length bytes ≤ most_read bytes)

-- the reading came to an end before there were as many
abbrev pub BreaksOff : Option (List ℕ) → Option (List ℕ) → Type 0
BreaksOff before after = (bytes : List ℕ) × Consumes before after bytes × (length bytes < most_read bytes)

-- why the bytes of the input aren't there: memory may be refused at any time, and a read may fail
abbrev pub RefusesInput : Option (List ℕ) → Option (List ℕ) → CommandRefusal → Type 0
RefusesInput before after refusal.OutOfMemory = ReadsFew before after
RefusesInput before after refusal.Read = BreaksOff before after
RefusesInput before after refusal.NotHexadecimal = ⊥
RefusesInput before after refusal.NotALine = ⊥
RefusesInput before after (refusal.Layout fault) = ⊥
RefusesInput before after (refusal.Line fault) = ⊥
RefusesInput before after (refusal.Notation fault) = ⊥
RefusesInput before after (refusal.Plan fault) = ⊥
RefusesInput before after (refusal.Place number) = ⊥
RefusesInput before after refusal.Strikes = ⊥
RefusesInput before after (refusal.Run fault) = ⊥
RefusesInput before after (refusal.Sweep why) = ⊥
RefusesInput before after (refusal.Drawing levels) = ⊥
