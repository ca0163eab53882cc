-- Bits in which the bus takes nothing and aborts nothing, as many as may be run.
use Rattle.std.specs.Prelude.{ℕ, Bool, List, length}
use Rattle.sja_link.specs.declared.bus_end.BusEnd.{Ghosts as Ends}
use Rattle.lemmas.specs.Related.{EachRelated}
use Rattle.sja_journal.specs.Written.{Room}
use Rattle.sja_steps.specs.declared.strike.Strike.{Strike}
use Rattle.sja_bus.specs.declared.board.Board.{Ghosts as Ports}
use Rattle.sja_bus.specs.declared.bus_node.BusNode.{BusNode}
use Rattle.sja_bus.specs.Boards.{KeepsOthers}
use Rattle.sja_bus.specs.Inside.Refusing.{HaveRoom}
use Rattle.sja_bus.specs.Inside.RunningOn.{RowsEnd, RowsRun}

-- so many of them, and why no more
pub record RunsLongest {E B : Type 0} (e : Ends E) (b : Ports B) (to_rest : Bool) (script : List Strike)
    (from most : ℕ) (was now : List BusNode) (links after : List E) (board told : B) (n : ℕ) : Type 0 where
  pub runs : RowsRun e b to_rest script from most was now links after board told n
  pub ends : RowsEnd (b.told board told) to_rest script from most was now n

-- what they keep, also where one broke off: which ends the links are, each port that is of no node of the bus, and the
-- room of each journal
pub record KeepsRows {E B : Type 0} (e : Ends E) (b : Ports B) (was now : List BusNode) (links after : List E)
    (board told : B) : Type 0 where
  pub sames : EachRelated e.same links after
  pub others : KeepsOthers b.ports b.kept (length was) board told
  pub rooms : (n : ℕ → Room) → HaveRoom n was → HaveRoom n now
