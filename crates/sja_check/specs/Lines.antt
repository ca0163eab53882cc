-- Lines of words (this project's own rule).
use Rattle.std.specs.Prelude.{◌≤◌, ◌+◌, ℕ, List, [], ◌∷◌, ◌++◌, length, All}

-- a printable character of ASCII, the space too
abbrev pub IsPlain : ℕ → Type 0
IsPlain c = (32 ≤ c) × (c ≤ 126)

-- at most 100 such characters
pub record IsLine (line : List ℕ) : Type 0 where
  pub few : length line ≤ 100
  pub plain : All IsPlain line

-- so many lines, each of at most 100 printable characters of ASCII and ended by a line feed
pub data AreLines : ℕ → List ℕ → Type 0 where
  none : AreLines 0 []
  more : (n : ℕ) (text line : List ℕ) → AreLines n text → IsLine line → AreLines (n + 1) (text ++ line ++ 10 ∷ [])

-- one line or two
pub record IsBrief (text : List ℕ) : Type 0 where
  pub count : ℕ
  pub some : 1 ≤ count
  pub few : count ≤ 2
  pub lines : AreLines count text

-- no line, or up to 21
pub record AreHints (text : List ℕ) : Type 0 where
  pub count : ℕ
  pub few : count ≤ 21
  pub lines : AreLines count text
