use Rattle.std.proofs.Common.{◌≡◌, [], take, drop}
use Rattle.sja_placed_strikes.specs.FramePlaces.{first_at}
use Rattle.sja_placed_strikes.proofs.frame_places.first_at.Given as goal

-- the bit is one that isn't looked at yet
abbrev pub invariant-loop-index : goal.invariant-loop-index
invariant-loop-index l =
    first_at l.ext l.place [] l.bits ≡ first_at l.ext l.place (take l.index l.bits) (drop l.index l.bits)
