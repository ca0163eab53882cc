-- All controllers of a bus in one bit, of which those before a place had it.
use Rattle.std.specs.Prelude.{◌≡◌, ◌≤◌, ℕ, List, length}
use Rattle.can_levels.specs.declared.level.Level.{Level}
use Rattle.sja_journal.specs.Lists.{Lists}
use Rattle.sja_link.specs.declared.bus_end.BusEnd.{Ghosts as Ends}
use Rattle.sja_regs.specs.declared.bus_turn.BusTurn.{BusTurn}
use Rattle.sja_bus.specs.declared.board.Board.{Ghosts as Ports}
use Rattle.sja_journal.specs.Written.{Room}
use Rattle.sja_journal.specs.declared.bus_fault.BusFault.{BusFault}
use Rattle.sja_bus.specs.declared.struck_nodes.StruckNodes.{StruckNodes}
use Rattle.sja_bus.specs.declared.bus_node.BusNode.{BusNode}
use Rattle.sja_bus.specs.Inside.Refusing.{HaveRoom, BusNodeBreaks}
use Rattle.sja_bus.specs.Inside.Rows.{AreReady, GoesAll, Done, BusNodeTurns}

-- the bus nodes before this place had the bit, the others are as they were, and so are their ports
pub record IsUnderway {E B : Type 0} (same : E → E → Type 0) (stands : E → ℕ → Lists → Type 0) (ports : B → ℕ)
    (told : B → B → ℕ → BusTurn → Type 0) (kept : B → B → ℕ → Type 0) (struck : StruckNodes) (level : Level)
    (before : List BusNode) (given : List E) (was : B) (k : ℕ) (bus_nodes : List BusNode) (links : List E)
    (board : B) : Type 0
  where
    pub ready : AreReady bus_nodes
    pub count : length bus_nodes ≡ length before
    pub goes : GoesAll same stands before bus_nodes given links
    pub rooms : (n : ℕ → Room) → HaveRoom n before → HaveRoom n bus_nodes
    pub done : Done (BusNodeTurns (told was board) (kept was board) struck level) k before bus_nodes
    pub ports_are : ports board ≡ ports was
    pub others : (m : ℕ) → k ≤ m → kept was board m

-- where those before this place had the bit, whatever all were before it, then all have it
abbrev pub GoesToAll : {E B : Type 0} → Ends E → Ports B → StruckNodes → Level → ℕ → List BusNode → List BusNode →
    List E →
    List E → B → B → Type 0
GoesToAll {E} {B} e b struck level first bus_nodes after links links_after board now =
    (before : List BusNode) (given : List E) (was : B) →
    IsUnderway e.same e.stands b.ports b.told b.kept struck level before given was first bus_nodes links board →
    (k : ℕ) × (length after ≤ k)
    × IsUnderway e.same e.stands b.ports b.told b.kept struck level before given was k after links_after now

-- where those before this place had it, with this fault the bit of one broke off
abbrev pub BreaksUnderway : {E B : Type 0} → Ends E → Ports B → StruckNodes → Level → ℕ → List BusNode → List BusNode →
    List E → B → BusFault → Type 0
BreaksUnderway {E} {B} e b struck level first bus_nodes after links board f =
    (before : List BusNode) (given : List E) (was : B) →
    IsUnderway e.same e.stands b.ports b.told b.kept struck level before given was first bus_nodes links board →
    BusNodeBreaks e before after given f
