-- The signals that show a level, or a state of two values, each a function of the bit (this project's own rule).
use Rattle.std.specs.Prelude.{ℕ, suc, Bool, true, false, List, [], ◌∷◌, ◌++◌, map, codes, decimal}
use Rattle.can_levels.specs.Fields.{is_recessive}
use Rattle.sja_journal.specs.declared.entry.Entry.{Entry}
use Rattle.can_levels.specs.BusLevel.{wired}
use Rattle.sja_log.specs.Log.{NodeValue}
use Rattle.text_wave.specs.Through.{through}
use Rattle.text_wave.specs.Signals.{last_bit, shows_driven, shows_seen, shows_active}
use Rattle.text_wave.specs.Signals.{shows_off, shows_stored, shows_overrun}

-- a signal: its name, its identifier code, and its value at each bit, counted from 0
pub record Wire : Type 0 where
  pub name : List ℕ
  pub code : List ℕ
  pub at : ℕ → Bool

-- the entries of a node's journal before bit k, and that bit's entry; after the last bit all entries
abbrev pub by_bit : ℕ → NodeValue → List Entry
by_bit k node = through (suc k) node.journal

-- the bus has what the nodes drive together: dominant where any of them drives dominant
abbrev pub bus_wire : List NodeValue → Wire
bus_wire nodes = record {
  name = codes "bus";
  code = codes "w";
  at = λ k. is_recessive (wired (map (λ (n : NodeValue). (last_bit (by_bit k n)).driven) nodes));
}

-- a signal of node n: its name, the letter before the node's number in its code, and what it shows of its journal
abbrev pub node_wire : List ℕ → List ℕ → (List Entry → Bool) → ℕ → NodeValue → Wire
node_wire name letter shows n node = record {
  name = name;
  code = letter ++ decimal n;
  at = λ k. shows (by_bit k node);
}

-- those that show what the journal of node n says
abbrev pub node_wires : ℕ → NodeValue → List Wire
node_wires n node =
    node_wire (codes "driven") (codes "d") shows_driven n node
    ∷ node_wire (codes "seen") (codes "s") shows_seen n node
    ∷ node_wire (codes "active") (codes "a") shows_active n node
    ∷ node_wire (codes "off") (codes "f") shows_off n node
    ∷ node_wire (codes "stored") (codes "m") shows_stored n node
    ∷ node_wire (codes "overrun") (codes "o") shows_overrun n node
    ∷ []

-- whether two levels differ
abbrev pub differ : Bool → Bool → Bool
differ false false = false
differ false true = true
differ true false = true
differ true true = false

-- whether node n is struck: the level that it sees isn't the one that all nodes drive together
abbrev pub struck_wire : Wire → ℕ → NodeValue → Wire
struck_wire bus n node = record {
  name = codes "struck";
  code = codes "x" ++ decimal n;
  at = λ k. differ (bus.at k) (shows_seen (by_bit k node));
}
