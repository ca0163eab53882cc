use Rattle.std.proofs.Common.{◌≡◌, take}
use Rattle.lemmas.specs.Gathering.{total}
use Rattle.sja_link.specs.World.{is_start}
use Rattle.sja_link.proofs.counts.starts.Given as goal

abbrev pub invariant-loop-item : goal.invariant-loop-item
invariant-loop-item l = total is_start (take l.item-index l.items) ≡ 0
