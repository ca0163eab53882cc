use Rattle.std.proofs.Common.{◌≡◌, replicate, vec_len, vec_capacity}
use Rattle.sja_regs.specs.Registers.{at_power_on}
use Rattle.sja_bus.proofs.serial_board.SerialBoard.new.Given as goal

-- so many ports were made, and there is room for all
abbrev pub invariant-loop : goal.invariant-loop
invariant-loop l = record {
  count : vec_len l.ports ≡ l.counter;
  room : vec_capacity l.ports ≡ l.nodes;
  made : l.ports.items ≡ replicate l.counter (at_power_on l.version);
}
