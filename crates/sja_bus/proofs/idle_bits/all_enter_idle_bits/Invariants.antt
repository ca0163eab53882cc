use Rattle.std.proofs.Common.{◌≡◌, ℕ}
use Rattle.sja_journal.specs.Written.{Room}
use Rattle.sja_bus.specs.Inside.Refusing.{HaveRoom}
use Rattle.sja_bus.specs.Inside.Idling.{after_bits}
use Rattle.sja_bus.specs.Inside.Rows.{Done}
use Rattle.sja_bus.proofs.idle_bits.all_enter_idle_bits.Given as goal

-- of each so far the bits passed
abbrev pub invariant-loop-k : goal.invariant-loop-k
invariant-loop-k l = record {
  rooms : (n : ℕ → Room) → HaveRoom n l.initial.bus_nodes → HaveRoom n l.bus_nodes;
  done : Done (λ m old new. new ≡ after_bits l.count old) l.k l.initial.bus_nodes l.bus_nodes;
}
