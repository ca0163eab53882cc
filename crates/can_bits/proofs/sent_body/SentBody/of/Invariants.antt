use Rattle.std.proofs.Common.{◌++◌, take}
use Rattle.std.specs.List.{flat_map}
use Rattle.can_levels.specs.declared.level.Level.TheVariants.{Dominant, Recessive}
use Rattle.can_levels.specs.Digits.{bits}
use Rattle.can_levels.specs.Body.{head_bits}
use Rattle.can_bits.specs.Packing.{Packs}
use Rattle.can_bits.proofs.sent_body.SentBody.of.Given as goal

-- the levels up to a byte were packed
abbrev pub invariant-loop-byte : goal.invariant-loop-byte
invariant-loop-byte l =
    Packs l.body.word l.body.length
    ((head_bits l.frame.ext l.frame.id l.frame.rtr Recessive Dominant Dominant ++ bits 4 l.frame.dlc)
    ++ flat_map (bits 8) (take l.byte-index l.byte-items))
