-- The lines of a talk (this project's own rule): what stands before each line feed, and behind the last one.
use Rattle.std.specs.Prelude.{◌≡◌, ◌==◌, ◌≤◌, ◌++◌, ℕ, false, if◌then◌else◌, List, [], ◌∷◌, length, IsUtf8}
use Rattle.sja_plan_reading.specs.Words.{Text}

-- the most bytes that a line may have, its line feed not counted
abbrev pub most_line : ℕ
most_line = 64

-- a line that can be read: it isn't too long, and its bytes are UTF-8
abbrev pub IsReadable : Text → Type 0
IsReadable line = (length line ≤ most_line) × IsUtf8 line

-- the first line of a text that isn't empty, without its line feed (10), and the text behind it
abbrev pub first_line : Text → Text
first_line [] = []
first_line (byte ∷ text) = if byte == 10 then [] else byte ∷ first_line text

abbrev pub behind_line : Text → Text
behind_line [] = []
behind_line (byte ∷ text) = if byte == 10 then text else behind_line text

-- these lines stand at the front of a text, one after another, and this is left behind them
pub data LeadsOn : Text → List Text → Text → Type 0 where
  none : {text : Text} → LeadsOn text [] text
  more : {text rest : Text} {lines : List Text} → ¬ (text ≡ []) →
      LeadsOn (behind_line text) lines rest → LeadsOn text (first_line text ∷ lines) rest

-- no line feed stands in these bytes
abbrev pub HasNoFeed : Text → Type 0
HasNoFeed [] = Unit {0}
HasNoFeed (byte ∷ bytes) = ((byte == 10) ≡ false) × HasNoFeed bytes

-- of a text at most a begun line was read, without a line feed, and this is left
abbrev pub HasBegun : Text → Text → Type 0
HasBegun text left = (begun : Text) × HasNoFeed begun × (text ≡ begun ++ left)
