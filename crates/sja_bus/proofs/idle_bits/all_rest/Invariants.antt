use Rattle.std.proofs.Common.{◌≡◌}
use Rattle.sja_bus.specs.Inside.Idling.{after_bits}
use Rattle.sja_bus.specs.Inside.Rows.{Done}
use Rattle.sja_bus.proofs.idle_bits.all_rest.Given as goal

-- of each so far the bits passed
abbrev pub invariant-loop-k : goal.invariant-loop-k
invariant-loop-k l = record {
  done : Done (λ m old new. new ≡ after_bits l.count old) l.k l.initial.bus_nodes l.bus_nodes;
}
