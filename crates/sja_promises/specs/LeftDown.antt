-- What was left downward on the links of nodes at the end of a run (this project's own rule).
use Rattle.std.specs.Prelude.{◌≡◌, ◌<◌, ℕ, List, [], length, slice_index_or}
use Rattle.sja_journal.specs.declared.down.Down.{Down}
use Rattle.sja_link.specs.declared.older_down.OlderDown.{OlderDown}
use Rattle.sja_link.specs.Deques.{Deques, left_on, down_on, KeepsOlder}
pub use Rattle.sja_link.specs.Deques.{on_link}

-- what was left on the link of an activation of a node, by what was left on the links of each node
abbrev pub left_of : List (List OlderDown) → ℕ → ℕ → List Down
left_of lists node activation = left_on (slice_index_or lists node []) activation

-- what lies on the links of nodes is what was left there
pub record IsLeft (links : List Deques) (lists : List (List OlderDown)) : Type 0 where
  pub count : length lists ≡ length links
  pub each : (node activation : ℕ) (d : Deques) → node < length links →
      left_of lists node activation ≡ down_on (slice_index_or links node d) activation

-- of each of these nodes there is room to keep all that may be left on links that have no queues any more
abbrev pub KeepOlder : List Deques → Type 0
KeepOlder links = (node : ℕ) (d : Deques) → node < length links → KeepsOlder (slice_index_or links node d)
