use Rattle.sja_bus.specs.Inside.Rows.{Done}
use Rattle.sja_bus.specs.Inside.Together.{BusNodeGoesOn}
use Rattle.sja_bus.proofs.together.all_go_on.Given as goal

-- each so far goes on
abbrev pub invariant-loop-k : goal.invariant-loop-k
invariant-loop-k l = record {
  done : Done (BusNodeGoesOn l.lead l.reader l.levels) l.k l.initial.bus_nodes l.bus_nodes;
}
