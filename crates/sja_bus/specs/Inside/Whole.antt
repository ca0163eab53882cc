-- How a bus keeps its nodes.
use Rattle.std.specs.Prelude.{◌≡◌, ◌+◌, ◌^◌, ◌≤◌, ℕ, Option, None, List, length}
use Rattle.can_levels.specs.declared.level.Level.{Level}
use Rattle.sja_regs.specs.declared.orders.Orders.{Orders}
use Rattle.sja_regs.specs.declared.bus_turn.BusTurn.{BusTurn}
use Rattle.sja_journal.specs.declared.bus_fault.BusFault.{BusFault}
use Rattle.sja_bus.specs.declared.struck_nodes.StruckNodes.{StruckNodes}
use Rattle.sja_bus.specs.declared.bus_node.BusNode.{BusNode}
use Rattle.sja_bus.specs.Inside.StrikesByBit.{Scripted}
use Rattle.can_levels.specs.BusLevel.{wired}
use Rattle.sja_bus_rules.specs.Reasons.{room_for}
use Rattle.sja_bus.specs.Inside.Refusing.{HaveRoom}
use Rattle.sja_bus.specs.Inside.Rows.{AreBegun, IsBus, EachBusNode, BusNodeOpens, driven_by, BusNodeOpensUntold}
use Rattle.sja_bus.specs.Inside.Rows.{BusNodeTurns}

-- one to eight nodes with room for all bits and for so many steps of each driver, as many bits as it is known whom the
-- script strikes, which is asked of no bit that has run; and while there is no fault a bus, of whose nodes no more
-- activations have begun than there are links for
pub record IsWhole (struck : Scripted) (starts : ℕ) (steps : List ℕ) (run left : ℕ) (fault : Option BusFault)
    (bus_nodes : List BusNode) (room : ℕ) : Type 0 where
  pub few : length bus_nodes ≤ 8
  pub bits : run + left ≡ struck.bits
  pub most : struck.bits ≤ 2 ^ 62
  pub asked : struck.from ≤ run
  pub bus : fault ≡ None → IsBus struck.script run bus_nodes
  pub begun : fault ≡ None → AreBegun starts bus_nodes
  pub logs : length bus_nodes ≤ room
  pub rooms : HaveRoom (room_for struck.bits steps) bus_nodes

-- one bit of all bus nodes: what was taken and aborted, and then each had its bit at the level that all drove, and its
-- port was told or passed over
pub record IsRowBit (orders_are : ℕ → Orders → Type 0) (was_told : ℕ → BusTurn → Type 0) (was_kept : ℕ → Type 0)
    (struck : StruckNodes) (old new : List BusNode) : Type 0 where
  pub opened : List BusNode
  pub level : Level
  pub count : length opened ≡ length old
  pub opens : EachBusNode (BusNodeOpens orders_are) old opened
  pub untold : EachBusNode BusNodeOpensUntold old opened
  pub is_level : level ≡ wired (driven_by opened)
  pub turns : EachBusNode (BusNodeTurns was_told was_kept struck level) opened new
