use Rattle.std.proofs.Common.{◌≡◌, take}
use Rattle.can_levels.specs.BusLevel.{wired}
use Rattle.sja_bus.specs.Inside.Rows.{Done, driven_by}
use Rattle.sja_bus.specs.Inside.RunningOn.{BusNodeIdle}
use Rattle.sja_bus.specs.Inside.Underway.{IsUnderway}
use Rattle.sja_bus.proofs.all_nodes.sample_all.Given as goal

-- those so far had a bit in which nothing happened
abbrev pub invariant-loop-k : goal.invariant-loop-k
invariant-loop-k g l = record {
  row : IsUnderway g.E.BusEnd.same g.E.BusEnd.stands g.B.Board.ports g.B.Board.told g.B.Board.kept l.struck l.level
      l.initial.bus_nodes l.initial.links l.initial.board l.k l.bus_nodes l.initial.links l.initial.board;
  links : l.links ≡ l.initial.links;
  board : l.board ≡ l.initial.board;
  idle : Done (BusNodeIdle l.struck l.level) l.k l.initial.bus_nodes l.bus_nodes;
  level : l.next ≡ wired (driven_by (take l.k l.bus_nodes));
}
