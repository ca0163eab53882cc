-- The message that a word of a step spells (this project's own rule). In versions 1 and 2 it is its bytes.
use Rattle.std.specs.Prelude.{◌≡◌, ◌⊎◌, ◌≤◌, ℕ, List}
use Rattle.can_frame.specs.Frame.{FrameValue, IsFrame}
use Rattle.can_frame.specs.Message.{message}
use Rattle.can_notation.specs.Text.{Says}
use Rattle.sja_plan_reading.specs.Words.{Text, SpellsMessage}

-- the word says a frame in can-utils' notation, and this is its message
abbrev pub SaysMessage : Text → List ℕ → Type 0
SaysMessage word m = (f : FrameValue) × IsFrame f × Says word f × (m ≡ message f)

-- in this version the word spells this message: its bytes in hexadecimal digits; in version 3 also that notation
abbrev pub SpellsMessageIn : ℕ → Text → List ℕ → Type 0
SpellsMessageIn version word m = SpellsMessage word m ⊎ ((3 ≤ version) × SaysMessage word m)
