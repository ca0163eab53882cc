use Rattle.std.proofs.Common.{◌≡◌, ℕ, ◌<◌, ◌≤◌, true, false, List, length}
use Rattle.std.specs.Prelude.{slice_index_or}
use Rattle.lemmas.specs.Related.{EachRelated}
use Rattle.sja_bus.specs.declared.bus_node.BusNode.{BusNode}
use Rattle.sja_journal.specs.Written.{Room}
use Rattle.sja_bus.specs.Inside.Refusing.{HaveRoom}
use Rattle.sja_bus.specs.Inside.Rows.{AreReady}
use Rattle.sja_bus.specs.Inside.RunningOn.{AreToldFrom}
use Rattle.sja_bus.proofs.AllNodes.Telling.{AreIdleBelow, IsToldBelow}
use Rattle.sja_bus.specs.Inside.Underway.{IsUnderway}
use Rattle.sja_bus.proofs.all_nodes.sample_from.Given as goal

-- what was so before the first of them had its bit goes on
abbrev pub invariant-loop-k : goal.invariant-loop-k
invariant-loop-k g l = record {
  ready : AreReady l.bus_nodes;
  sames : EachRelated g.E.BusEnd.same l.initial.links l.links;
  rooms : (n : ℕ → Room) → HaveRoom n l.initial.bus_nodes → HaveRoom n l.bus_nodes;
  ports : g.B.Board.ports l.board ≡ g.B.Board.ports l.initial.board;
  others : (m : ℕ) → length l.initial.bus_nodes ≤ m → g.B.Board.kept l.initial.board l.board m;
  before : (m : ℕ) → m < l.first → g.B.Board.kept l.initial.board l.board m
      × ((s : BusNode) → slice_index_or l.bus_nodes m s ≡ slice_index_or l.initial.bus_nodes m s);
  rest : (m : ℕ) → l.k ≤ m → g.B.Board.kept l.initial.board l.board m
      × ((s : BusNode) → slice_index_or l.bus_nodes m s ≡ slice_index_or l.initial.bus_nodes m s);
  told : l.told ≡ true → AreToldFrom l.first l.initial.bus_nodes →
      IsToldBelow (g.B.Board.told l.initial.board l.board) l.bus_nodes l.k;
  idle : l.told ≡ false → (l.board ≡ l.initial.board)
      × AreIdleBelow l.first l.k l.struck l.level l.initial.bus_nodes l.bus_nodes;
  row : (before : List BusNode) (given : List g.row.E.Denot) (was : g.row.B.Denot) →
      IsUnderway g.E.BusEnd.same g.E.BusEnd.stands g.B.Board.ports g.B.Board.told g.B.Board.kept l.struck l.level before
      given was l.first l.initial.bus_nodes l.initial.links l.initial.board →
      IsUnderway g.E.BusEnd.same g.E.BusEnd.stands g.B.Board.ports g.B.Board.told g.B.Board.kept l.struck l.level before
      given was l.k l.bus_nodes l.links l.board;
}
