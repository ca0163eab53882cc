use Rattle.std.proofs.Common.{◌≡◌, take}
use Rattle.can_node_rules.specs.Contending.{arbitration_field}
use Rattle.can_node.proofs.contention.place_lost.Given as goal

-- the fields are the same so far
abbrev pub invariant-loop-place : goal.invariant-loop-place
invariant-loop-place l = take l.place (arbitration_field l.own) ≡ take l.place (arbitration_field l.other)
