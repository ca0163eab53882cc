-- The signals that show a number, each a function of the bit (this project's own rule).
use Rattle.std.specs.Prelude.{ℕ, Option, List, ◌++◌, decimal}
use Rattle.sja_replay.specs.declared.view.View.{View}
use Rattle.text_wave.specs.Stories.{NodeStory}
use Rattle.text_wave.specs.Views.{view_in}

-- a number: its name, its identifier code, and its value at each bit, counted from 0
pub record Number : Type 0 where
  pub name : List ℕ
  pub code : List ℕ
  pub at : ℕ → ℕ

-- a number of node n: its name, the letter before the node's number in its code, and what it is by what the node shows
abbrev pub node_number : List ℕ → List ℕ → (Option View → ℕ) → ℕ → NodeStory → Number
node_number name letter shows n s = record {
  name = name;
  code = letter ++ decimal n;
  at = λ k. shows (view_in k s.bits);
}
