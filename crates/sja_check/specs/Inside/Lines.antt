-- A line that is added to a text (this project's own rule).
use Rattle.std.specs.Prelude.{◌≡◌, ◌+◌, ℕ, List, [], ◌∷◌, ◌++◌}
use Rattle.sja_check.specs.Lines.{IsLine}

-- the text is the old one with a line of words and a line feed behind it
pub record AddsLine (old text : List ℕ) : Type 0 where
  pub line : List ℕ
  pub is_line : IsLine line
  pub text_is : text ≡ old ++ line ++ 10 ∷ []
