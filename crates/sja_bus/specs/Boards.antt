-- The ports of a board, and those of one in one thread, by node (this project's own rule).
use Rattle.std.specs.Prelude.{◌≡◌, ◌<◌, ◌≤◌, ℕ, true, List, length, slice_index_or}
use Rattle.sja_regs.specs.declared.bus_turn.BusTurn.{BusTurn}
use Rattle.sja_regs.specs.declared.orders.Orders.{Orders}
use Rattle.sja_regs.specs.declared.registers.Registers.{Registers}
use Rattle.sja_regs.specs.Facts.{RegisterFacts}
use Rattle.sja_regs.specs.Turns.{after_turn}

-- the port of this node, as it was and as it is, is so related
abbrev pub AtPort : (Registers → Registers → Type 0) → List Registers → List Registers → ℕ → Type 0
AtPort R old new node = (d : Registers) → R (slice_index_or old node d) (slice_index_or new node d)

-- it has these orders
abbrev pub HasOrders : List Registers → ℕ → Orders → Type 0
HasOrders ports node orders =
    (d : Registers) → let p = slice_index_or ports node d in orders ≡ record { abort = p.abort; ended = p.ended }

-- what holds of every port holds of it
abbrev pub HasFacts : List Registers → ℕ → Type 0
HasFacts ports node = (d : Registers) → node < length ports → RegisterFacts (slice_index_or ports node d)

-- it shows already what the turn says: the turn would leave it as it is
abbrev pub ShowsTurn : List Registers → ℕ → BusTurn → Type 0
ShowsTurn ports node turn = (d : Registers) → let p = slice_index_or ports node d in after_turn p turn ≡ p

-- it was told the turn
abbrev pub WasTold : List Registers → List Registers → ℕ → BusTurn → Type 0
WasTold old new node turn = AtPort (λ p q. q ≡ after_turn p turn) old new node

-- it was closed
abbrev pub WasClosed : List Registers → List Registers → ℕ → Type 0
WasClosed old new node = AtPort (λ p q. q ≡ record p { closed = true }) old new node

-- it is as it was
abbrev pub WasKept : List Registers → List Registers → ℕ → Type 0
WasKept old new node = AtPort (λ p q. q ≡ p) old new node

-- a board has as many ports as before, and those from this number on are as they were
abbrev pub KeepsOthers : {B : Type 0} → (B → ℕ) → (B → B → ℕ → Type 0) → ℕ → B → B → Type 0
KeepsOthers {B} ports kept nodes old new = (ports new ≡ ports old) × ((k : ℕ) → nodes ≤ k → kept old new k)
