-- A command line as one row of bytes, as a page hands it over (this project's own rule).
use Rattle.std.specs.List.{join_with_byte}
use Rattle.std.specs.Str.Iter.{LacksByte}
use Rattle.std.specs.Prelude.{◌≡◌, List, ℕ, All}

-- the words of a row: a 0 stands between each two, and none within one
pub record AreWords (row : List ℕ) (words : List (List ℕ)) : Type 0 where
  pub joined : row ≡ join_with_byte 0 words
  pub bare : All (LacksByte 0) words
