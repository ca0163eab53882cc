-- What can be wrong with a text that is read as a frame's (this project's own rule).
use Rattle.std.specs.Prelude.{◌≡◌, ◌==◌, ℕ, List, Contains}
use Rattle.std.specs.List.{before_first, after_first}
use Rattle.can_frame.specs.Frame.{FrameValue, IsFrame}
use Rattle.can_notation.specs.Digits.{capitals}
use Rattle.can_notation.specs.Text.{hash, identifier_text, rest_text, Says}

-- there is a `#` in it
abbrev pub HasHash : List ℕ → Type 0
HasHash said = Contains said hash

-- what stands before the first `#`
abbrev pub before_hash : List ℕ → List ℕ
before_hash said = before_first (λ c. c == hash) said

-- what stands behind the first `#`
abbrev pub behind_hash : List ℕ → List ℕ
behind_hash said = after_first (λ c. c == hash) said

-- what stands before the first `#` is the identifier of some frame
abbrev pub HasIdentifier : List ℕ → Type 0
HasIdentifier said = (f : FrameValue) × IsFrame f × (capitals (before_hash said) ≡ identifier_text f.ext f.id)

-- what stands behind the first `#` is the rest of some frame's text
abbrev pub HasRest : List ℕ → Type 0
HasRest said = (f : FrameValue) × IsFrame f × (capitals (behind_hash said) ≡ rest_text f.rtr f.dlc f.bytes)

-- it says some frame
abbrev pub SaysFrame : List ℕ → Type 0
SaysFrame said = (f : FrameValue) × IsFrame f × Says said f
