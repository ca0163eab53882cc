-- The wire: what the nodes of a bus drive and see together (Bosch CAN 2.0 part A section 2, "Bus values"; strikes are
-- this project's own rule).
use Rattle.std.specs.Prelude.{◌≡◌, ◌<◌, ℕ, List, [], length, map, slice_index_or}
use Rattle.can_levels.specs.declared.level.Level.{Level}
use Rattle.can_levels.specs.declared.level.Level.TheVariants.{Recessive}
use Rattle.can_levels.specs.BusLevel.{wired}
use Rattle.can_levels.specs.Digits.{opposite}
use Rattle.can_node_rules.specs.Bits.{Bit, recessive_bit}
use Rattle.sja_journal.specs.declared.entry.Entry.{Entry}
use Rattle.sja_journal.specs.Carried.{bits_of}
use Rattle.sja_steps.specs.declared.strike.Strike.{Strike}
use Rattle.sja_steps.specs.Striking.{Strikes}

-- what a node sees of the level on the bus: the other one where it is struck
pub record IsSeen (Struck : Type 0) (bus seen : Level) : Type 0 where
  pub struck : Struck → seen ≡ opposite bus
  pub plain : (Struck → ⊥) → seen ≡ bus

-- the journal of a node, and one bit of a journal
abbrev pub journal_at : List (List Entry) → ℕ → List Entry
journal_at journals node = slice_index_or journals node []

abbrev pub bit_at : ℕ → List Entry → Bit
bit_at i j = slice_index_or (bits_of j) i (recessive_bit Recessive)

-- the levels that all nodes drive in one bit
abbrev pub driven_at : ℕ → List (List Entry) → List Level
driven_at i journals = map (λ j. (bit_at i j).driven) journals

-- each journal has as many bits as were run, and in each bit each node sees the level that all drive together, or the
-- other one where it is struck
pub record IsWired (script : List Strike) (bits : ℕ) (journals : List (List Entry)) : Type 0 where
  pub count : (node : ℕ) → node < length journals → length (bits_of (journal_at journals node)) ≡ bits
  pub seen : (i node : ℕ) → i < bits → node < length journals →
      IsSeen (Strikes script i node) (wired (driven_at i journals)) (bit_at i (journal_at journals node)).seen
