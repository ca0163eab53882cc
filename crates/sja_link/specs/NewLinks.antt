-- The links of all nodes before a run (this project's own rule).
use Rattle.std.specs.Prelude.{◌≡◌, ◌<◌, ℕ, List, [], length, slice_index_or, replicate, min}
use Rattle.sja_link.specs.Deques.{Deques, nothing_lies}

-- the links of a node for so many activations, none of which has begun, with nothing on them: 64 have queues, or all
-- where there are fewer
abbrev pub new_links : ℕ → ℕ → Deques
new_links node starts = record {
  node = node;
  first = 1;
  at = min starts 1;
  here = nothing_lies;
  others = replicate (min starts 64) nothing_lies;
  older = [];
  starts = starts;
}

-- the links of each of so many nodes in order, each for so many activations, with nothing on them
pub record AreNewLinks (nodes starts : ℕ) (links : List Deques) : Type 0 where
  pub count : length links ≡ nodes
  pub each : (node : ℕ) (d : Deques) → node < nodes → slice_index_or links node d ≡ new_links node starts
