use Rattle.std.proofs.Common.{All, length}
use Rattle.sja_placed_strikes.specs.Aims.{aims_in}
use Rattle.sja_placed_strikes.specs.Resolving.{ComesTo}
use Rattle.sja_placed_strikes.proofs.Steps.{IsBelow}
use Rattle.sja_placed_strikes.proofs.resolving.resolved.Given as goal

-- the plan is come to
abbrev pub invariant-loop-alloc : goal.invariant-loop-alloc
invariant-loop-alloc l = record {
  comes : ComesTo l.fn.plan (aims_in l.placed) l.plan l.aims.items;
  there : All (IsBelow (length l.plan.nodes)) l.aims.items;
}

abbrev pub decreases-loop-alloc : goal.decreases-loop-alloc
decreases-loop-alloc l = length l.aims.items
