use Rattle.sja_bus.specs.Inside.Rows.{Done}
use Rattle.sja_bus.specs.Inside.Together.{BusNodeGoesBeside}
use Rattle.sja_bus.proofs.stray.all_go_beside.Given as goal

-- each so far goes on
abbrev pub invariant-loop-k : goal.invariant-loop-k
invariant-loop-k l = record {
  done : Done (BusNodeGoesBeside l.lead l.stray l.reader l.beside l.levels) l.k l.initial.bus_nodes l.bus_nodes;
}
