use Rattle.std.proofs.Common.{◌≡◌, take}
use Rattle.lemmas.specs.Gathering.{total}
use Rattle.sja_link.specs.World.{is_stop}
use Rattle.sja_link.proofs.counts.stops.Given as goal

abbrev pub invariant-loop-item : goal.invariant-loop-item
invariant-loop-item l = total is_stop (take l.item-index l.items) ≡ 0
