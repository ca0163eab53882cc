use Rattle.std.proofs.Common.{take}
use Rattle.can_levels.proofs.Checks.{Divided}
use Rattle.can_bits.proofs.crc.crc_of.Given as goal

-- the levels so far and the register are a multiple of the generator
abbrev pub invariant-loop-level : goal.invariant-loop-level
invariant-loop-level l = Divided (take l.level-index l.levels) l.crc
