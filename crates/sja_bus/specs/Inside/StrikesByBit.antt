-- Which nodes are struck in each bit of a run (this project's own rule).
use Rattle.std.specs.Prelude.{◌≡◌, ◌^◌, ◌⊎◌, ◌↔◌, ◌<◌, ◌≤◌, ℕ, List, length, slice_index_or}
use Rattle.std.specs.Int.{bit_at}
use Rattle.sja_steps.specs.declared.strike.Strike.{Strike}
use Rattle.sja_steps.specs.Striking.{Hits, Strikes}
use Rattle.sja_bus.specs.declared.struck_nodes.StruckNodes.{StruckNodes}

-- the node is among these
abbrev pub IsAmong : ℕ → StruckNodes → Type 0
IsAmong node nodes = bit_at nodes.mask node ≡ 1

-- after one strike more the nodes that are struck in each bit are those that were, and those that it strikes there
abbrev pub IsMarked : Strike → List StruckNodes → List StruckNodes → Type 0
IsMarked strike old new = (bit node : ℕ) (d : StruckNodes) → bit < length old → node < 8 →
    IsAmong node (slice_index_or new bit d) ↔ (IsAmong node (slice_index_or old bit d) ⊎ Hits strike bit node)

-- nobody
abbrev pub nobody : StruckNodes
nobody = record { mask = 0 }

-- of so many bits the nodes that are struck: those of the first ones, and nobody in the bits behind them
pub record Table : Type 0 where
  pub bits : ℕ
  pub nodes : List StruckNodes

-- the node is struck in this bit
abbrev pub IsAmongAt : Table → ℕ → ℕ → Type 0
IsAmongAt table bit node = IsAmong node (slice_index_or table.nodes bit nobody)

-- after one strike more
pub record IsMarkedWith (strike : Strike) (old new : Table) : Type 0 where
  pub bits : new.bits ≡ old.bits
  pub nodes : (bit node : ℕ) → bit < old.bits → node < 8 →
      IsAmongAt new bit node ↔ (IsAmongAt old bit node ⊎ Hits strike bit node)

-- in each bit the nodes are those that the script strikes
abbrev pub IsTableOf : List Strike → Table → Type 0
IsTableOf script table =
    (bit node : ℕ) → bit < table.bits → node < 8 → IsAmongAt table bit node ↔ Strikes script bit node

-- nobody is struck in the bits from one up to another one, that one left out
abbrev pub IsCalm : ℕ → ℕ → Table → Type 0
IsCalm from to table =
    (bit node : ℕ) → from ≤ bit → bit < to → bit < table.bits → node < 8 → IsAmongAt table bit node → ⊥

-- one of eight nodes is struck in this bit
abbrev pub IsStruckAt : Table → ℕ → Type 0
IsStruckAt table bit = (node : ℕ) × (node < 8) × IsAmongAt table bit node

-- a script, the number of bits of the run, and from which bit on it is asked whom the script strikes
pub record Scripted : Type 0 where
  pub script : List Strike
  pub bits : ℕ
  pub from : ℕ

-- the strikes that came later, those too that were forgotten, none of which hits a bit from this one on
pub record Laters : Type 0 where
  pub items : List Strike
  pub from : ℕ

-- the strike hits no bit from this one on
abbrev pub HasPassed : Strike → ℕ → Type 0
HasPassed strike from = (bit node : ℕ) → from ≤ bit → Hits strike bit node → ⊥

-- two lists of strikes strike the same nodes in each bit from this one on
abbrev pub StrikeAlike : List Strike → List Strike → ℕ → Type 0
StrikeAlike one other from = (bit node : ℕ) → from ≤ bit → Strikes one bit node ↔ Strikes other bit node

-- one strike hits none of eight nodes in the bits from one up to another one, that one left out
abbrev pub IsUnhit : Strike → ℕ → ℕ → Type 0
IsUnhit strike from to = (bit node : ℕ) → from ≤ bit → bit < to → node < 8 → Hits strike bit node → ⊥

-- in none of these bits the script strikes one of eight nodes
abbrev pub IsUnstruck : List Strike → ℕ → ℕ → Type 0
IsUnstruck script from to = (bit node : ℕ) → from ≤ bit → bit < to → node < 8 → Strikes script bit node → ⊥

-- the script strikes one of eight nodes in this bit, or it is the end of the run
abbrev pub IsStruckOrEnd : List Strike → ℕ → ℕ → Type 0
IsStruckOrEnd script bits bit = (bit ≡ bits) ⊎ ((node : ℕ) × (node < 8) × Strikes script bit node)

-- how it is held whom a script strikes in so many bits, which can be counted: a table, of all bits where they are few;
-- and from one bit up to another one that the script strikes nobody, and that it does then
pub record IsHeld (script : List Strike) (bits : ℕ) (table : Table) (calm_from calm_to : ℕ) : Type 0 where
  pub table_is : IsTableOf script table
  pub few : bits ≤ 4194304 → table.bits ≡ bits
  pub counted : bits ≤ 2 ^ 62
  pub within : calm_to ≤ bits
  pub calm : IsUnstruck script calm_from calm_to
  pub stop : calm_from ≤ calm_to → IsStruckOrEnd script bits calm_to
