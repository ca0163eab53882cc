-- What the links of a node keep in one thread (this project's own rule): two queues for each of at most 64 links in a
-- row.
use Rattle.std.specs.Prelude.{◌≡◌, ◌≢◌, ◌⊎◌, ◌<◌, ◌≤◌, ◌+◌, ◌-◌, ◌*◌, ◌==◌, ℕ, suc, if◌then◌else◌, Some, None}
use Rattle.std.specs.Prelude.{List, [], ◌∷◌, ◌++◌, length, map, min}
use Rattle.std.specs.List.{filter_map}
use Rattle.sja_journal.specs.declared.down.Down.{Down}
use Rattle.sja_journal.specs.declared.up.Up.{Up}
use Rattle.sja_link.specs.declared.older_down.OlderDown.{OlderDown}
use Rattle.sja_journal.specs.Lists.{Lists, nothing_yet}
use Rattle.sja_journal.specs.BoundedHistories.{KeepsAll}

-- ---- one link

-- what lies on a link, downward and upward, oldest first
pub record Queues : Type 0 where
  pub down : List Down
  pub up : List Up

abbrev pub nothing_lies : Queues
nothing_lies = record { down = []; up = [] }

-- of links in order, the first of which is that of this activation, what lies on the link of any activation: on a link
-- that isn't one of them nothing does
abbrev pub among : ℕ → List Queues → ℕ → Queues
among first [] a = nothing_lies
among first (q ∷ links) a = if first == a then q else among (suc first) links a

-- ---- the links of a node

-- whose links they are; the first activation whose link has queues; the activation whose link is at hand, and what lies
-- on it; what lies on the links that have queues, from the first on, but for the one at hand; what was left downward on
-- the links before; and for how many activations there are links
pub record Deques : Type 0 where
  pub node : ℕ
  pub first : ℕ
  pub at : ℕ
  pub here : Queues
  pub others : List Queues
  pub older : List OlderDown
  pub starts : ℕ

-- these items, each on the link of this activation
abbrev pub on_link : ℕ → List Down → List OlderDown
on_link a items = map (λ (x : Down). record { activation = a; item = x }) items

-- what lies downward on links in order, the first of which is that of this activation
abbrev pub all_down : ℕ → List Queues → List OlderDown
all_down first [] = []
all_down first (q ∷ links) = on_link first q.down ++ all_down (suc first) links

-- of what was left, that on the link of this activation
abbrev pub left_on : List OlderDown → ℕ → List Down
left_on older a = filter_map (λ (x : OlderDown). if x.activation == a then Some x.item else None) older

-- there is room to keep all that may be left: 22 items on each link that may come to have no queues any more
abbrev pub KeepsOlder : Deques → Type 0
KeepsOlder s = KeepsAll (22 * (s.starts - length s.others))

-- what lies on the queues of the link of an activation
abbrev pub queues_on : Deques → ℕ → Queues
queues_on s a = if s.at == a then s.here else among s.first s.others a

-- what lies downward there, or was left
abbrev pub down_on : Deques → ℕ → List Down
down_on s a = left_on s.older a ++ (queues_on s a).down

-- and what lies there upward
abbrev pub up_on : Deques → ℕ → List Up
up_on s a = (queues_on s a).up

-- the link of an activation has no queues: any more, or yet
abbrev pub IsAside : Deques → ℕ → Type 0
IsAside s a = (a < s.first) ⊎ (s.first + length s.others ≤ a)

-- activations count from 1; 64 links in a row have queues, or all where there are fewer, and none of them is beyond the
-- last link; on those that have, or have none yet, nothing was left aside
pub record AreLinks (s : Deques) : Type 0 where
  pub from : 0 < s.first
  pub many : length s.others ≡ min s.starts 64
  pub few : s.first + length s.others ≤ s.starts + 1
  pub none_left : (a : ℕ) → (a ≡ 0) ⊎ (s.first ≤ a) → left_on s.older a ≡ []

-- what was put on a link is what was got followed by what lies there, and the same upward. Nothing was on a link that
-- has no queues yet; and where some have none any more, something was given on the last that has them
pub record Lies (s : Deques) (a : ℕ) (l : Lists) : Type 0 where
  pub down : l.put ≡ l.got ++ down_on s a
  pub up : l.given ≡ l.taken ++ up_on s a
  pub later : s.first + length s.others ≤ a → l ≡ nothing_yet
  pub begun : 1 < s.first → suc a ≡ s.first + length s.others → l.given ≢ []
  pub links : AreLinks s

-- ---- what its calls may answer

-- the bus may get an item back: on a link that has no queues, or where 22 items lie
abbrev pub IsFullDown : Deques → ℕ → Type 0
IsFullDown s a = IsAside s a ⊎ (length (queues_on s a).down ≡ 22)

-- the driver may get an item back: where 24 items lie; on a link that has no queues any more; and on one that has none
-- yet, but for the next one, if it is there and nothing lies upward on the first that has queues
abbrev pub IsFullUp : Deques → ℕ → Type 0
IsFullUp s a =
    (length (up_on s a) ≡ 24)
    ⊎ ((a < s.first)
    ⊎ ((s.first + length s.others ≤ a)
    × ((s.starts < a) ⊎ ((s.first + length s.others ≢ a) ⊎ (up_on s s.first ≢ [])))))

-- the driver may be shown nothing: where nothing lies on the queues of the link
abbrev pub IsDryDown : Deques → ℕ → Type 0
IsDryDown s a = (queues_on s a).down ≡ []

-- both are the links of one node, and for as many activations
abbrev pub AreAlike : Deques → Deques → Type 0
AreAlike s t = (t.node ≡ s.node) × (t.starts ≡ s.starts)
