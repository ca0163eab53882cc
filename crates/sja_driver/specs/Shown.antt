-- A port and its node's record, as to error counters and status (this project's own rule).
use Rattle.std.specs.Prelude.{◌≡◌, List}
use Rattle.sja_journal.specs.declared.entry.Entry.{Entry}
use Rattle.sja_regs.specs.declared.bus_turn.BusTurn.{BusTurn}
use Rattle.sja_regs.specs.declared.registers.Registers.{Registers}
use Rattle.sja_regs.specs.Turns.{rxerr_after, txerr_after, rs_after, ts_after, bs_after}
use Rattle.sja_bus_rules.specs.Telling.{Says}

-- the port shows what stands at the end of the record: whatever turn says that would leave its error counters, RS, TS
-- and BS as they are
pub record ShowsRecord (j : List Entry) (p : Registers) : Type 0 where
  pub rxerr : (turn : BusTurn) → Says j turn → rxerr_after p turn ≡ p.rxerr
  pub txerr : (turn : BusTurn) → Says j turn → txerr_after p turn ≡ p.txerr
  pub rs : (turn : BusTurn) → Says j turn → rs_after p turn ≡ p.rs
  pub ts : (turn : BusTurn) → Says j turn → ts_after p turn ≡ p.ts
  pub bs : (turn : BusTurn) → Says j turn → bs_after p turn ≡ p.bs
