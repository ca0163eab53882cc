-- How the queues of a node's links are kept, and what was left on links that have none any more.
use Rattle.std.specs.Prelude.{◌≡◌, ◌≢◌, ◌⊎◌, ◌<◌, ◌≤◌, ◌+◌, ◌*◌, ◌^◌, ℕ, suc, List, [], ◌++◌, length, min}
use Rattle.sja_journal.specs.declared.down.Down.{Down}
use Rattle.sja_journal.specs.declared.up.Up.{Up}
use Rattle.sja_link.specs.declared.older_down.OlderDown.{OlderDown}
use Rattle.sja_link.specs.Deques.{Deques, Queues, among, left_on, nothing_lies, on_link, queues_on}

-- at most 22 items downward and 24 upward, for which there is memory
pub record AreQueues (down : List Down) (memory_down : ℕ) (up : List Up) (memory_up : ℕ) : Type 0 where
  pub few_down : length down ≤ 22
  pub few_up : length up ≤ 24
  pub room_down : 22 ≤ memory_down
  pub room_up : 24 ≤ memory_up

-- queues for 64 links in a row, or for all where there are fewer, from that of an activation on, 1 at least, none
-- beyond the last link, of at most 2^58, for which there is memory: one of them is at hand, in whose place nothing
-- lies, or 0 where there are none; on the links before 22 items for each were left at most, in all, and nothing was
-- left on any other; and what is left has room for 22 of each link that may come to have no queues any more
pub record AreKept (first at : ℕ) (others : List Queues) (older : List OlderDown) (starts room memory : ℕ)
    : Type 0 where
  pub from : 0 < first
  pub many : length others ≡ min starts 64
  pub memory_is : min starts 64 ≤ memory
  pub inside : first + length others ≤ starts + 1
  pub most : starts ≤ 2 ^ 58
  pub hand : (at ≡ 0) ⊎ (first ≤ at)
  pub there : 0 < length others → (first ≤ at) × (at < first + length others)
  pub before : at < first + length others
  pub place : among first others at ≡ nothing_lies
  pub room_is : room + 22 * length others ≡ 22 * starts
  pub few : length older + 22 ≤ 22 * first
  pub none_left : (a : ℕ) → (a ≡ 0) ⊎ (first ≤ a) → left_on older a ≡ []

-- the link of this activation, which has queues, is at hand, and on each lies what lay there
pub record IsTurned (s t : Deques) (a : ℕ) : Type 0 where
  pub at : t.at ≡ a
  pub lies : (b : ℕ) → queues_on t b ≡ queues_on s b
  pub node : t.node ≡ s.node
  pub first : t.first ≡ s.first
  pub many : length t.others ≡ length s.others
  pub older : t.older ≡ s.older
  pub starts : t.starts ≡ s.starts
  pub from : s.first ≤ a
  pub before : a < s.first + length s.others

-- the next link has the queues of the first, and is at hand; what lay downward on the first is left
pub record IsMoved (s t : Deques) : Type 0 where
  pub at : t.at ≡ s.first + length s.others
  pub lies : (b : ℕ) → b ≢ s.first → queues_on t b ≡ queues_on s b
  pub none : queues_on t s.first ≡ nothing_lies
  pub node : t.node ≡ s.node
  pub first : t.first ≡ suc s.first
  pub many : length t.others ≡ length s.others
  pub older : t.older ≡ s.older ++ on_link s.first (queues_on s s.first).down
  pub starts : t.starts ≡ s.starts
