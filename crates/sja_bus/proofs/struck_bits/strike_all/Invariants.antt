use Rattle.std.proofs.Common.{◌≡◌}
use Rattle.std.specs.Prelude.{take}
use Rattle.sja_bus.specs.Inside.StrikesByBit.{IsTableOf}
use Rattle.sja_bus.proofs.struck_bits.strike_all.Given as goal

-- so many strikes of the script are marked
abbrev pub invariant-loop-strike : goal.invariant-loop-strike
invariant-loop-strike l = record {
  bits : l.table.bits ≡ l.initial.table.bits;
  struck : IsTableOf (take l.strike-index l.script) l.table;
}
