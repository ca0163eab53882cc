use Rattle.std.proofs.Common.{take}
use Rattle.can_levels.specs.Reading.{IsFaultless}
use Rattle.can_bits.specs.Shifts.{StandsFor}
use Rattle.can_bits.proofs.reading.run.Given as goal

-- the reader was given the levels so far, and nothing is wrong with them
abbrev pub invariant-loop-level : goal.invariant-loop-level
invariant-loop-level l = record {
  stands : StandsFor l.shift (take l.level-index l.levels);
  faultless : IsFaultless (take l.level-index l.levels);
}
