use Rattle.std.proofs.Common.{◌≡◌, ◌≤◌, ◌++◌, map}
use Rattle.std.specs.List.{range_with_len}
use Rattle.sja_placed_strikes.specs.Aims.{aim_at}
use Rattle.sja_placed_strikes.specs.declared.aimed_frame.AimedFrame.TheVariants.{OfNode}
use Rattle.sja_placed_strikes.proofs.aims.push_aims.Given as goal

-- those of the frames so far
abbrev pub invariant-loop-index : goal.invariant-loop-index
invariant-loop-index l =
    l.aims.items ≡ l.fn.aims.items ++ map (aim_at l.fn.strike) (map OfNode (range_with_len 1 l.index))
