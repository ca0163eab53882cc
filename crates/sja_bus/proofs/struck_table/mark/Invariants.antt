use Rattle.sja_bus.specs.Inside.StrikesByBit.{IsMarked}
use Rattle.sja_bus.proofs.struck_table.mark.Given as goal

-- so many times of the strike are marked
abbrev pub invariant-loop-time : goal.invariant-loop-time
invariant-loop-time l = IsMarked (record l.strike { times = l.time }) l.fn.bits l.bits
