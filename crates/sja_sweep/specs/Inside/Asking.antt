-- What a sweep tries, by the nodes and bits that it strikes.
use Rattle.std.specs.Prelude.{◌≡◌, ◌+◌, ◌-◌, ◌^◌, ◌<◌, ◌≤◌, ℕ, List, map}
use Rattle.std.specs.List.{range_with_len}
use Rattle.lemmas.specs.Gathering.{gathered}
use Rattle.sja_sweep.specs.declared.strike_range.StrikeRange.{StrikeRange}
use Rattle.sja_sweep.specs.declared.sweeping.Sweeping.{Sweeping}
use Rattle.sja_sweep.specs.declared.trial.Trial.{Trial}
use Rattle.sja_sweep.specs.Targets.{nodes_struck, bit_count, alone, pair, laters}

-- the nodes
abbrev pub nodes_asked : StrikeRange → List ℕ
nodes_asked a = range_with_len a.from (a.end - a.from)

-- what a sweep strikes, by its numbers
pub record IsAsked (s : Sweeping) (nodes bits : ℕ) (a : StrikeRange) : Type 0 where
  pub nodes_are : nodes_asked a ≡ nodes_struck s.node nodes
  pub first : a.first ≡ s.first
  pub count : a.count ≡ bit_count s bits
  pub low : a.from ≤ a.end
  pub high : a.end ≤ 256
  pub room : a.first + a.count < 2 ^ 32

-- a node in each bit, alone
abbrev pub bits_alone : StrikeRange → ℕ → List Trial
bits_alone a node = map (alone node) (range_with_len a.first a.count)

abbrev pub all_alone : StrikeRange → List Trial
all_alone a = gathered (bits_alone a) (nodes_asked a)

-- a node in each bit, with another one so many bits later
abbrev pub bits_paired : StrikeRange → ℕ → ℕ → ℕ → List Trial
bits_paired a node other later = map (pair node other later) (range_with_len a.first (a.count - later))

-- by each number of bits
abbrev pub laters_paired : ℕ → StrikeRange → ℕ → ℕ → List Trial
laters_paired within a node other = gathered (bits_paired a node other) (laters within a.count node other)

-- with each other node
abbrev pub others_paired : ℕ → StrikeRange → ℕ → List Trial
others_paired within a node = gathered (laters_paired within a node) (nodes_asked a)

abbrev pub all_paired : ℕ → StrikeRange → List Trial
all_paired within a = gathered (others_paired within a) (nodes_asked a)
